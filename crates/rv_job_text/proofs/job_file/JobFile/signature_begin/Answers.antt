use Rattle.std.proofs.Common.{◌∙◌, ap, option_map, sym}
use Rattle.rv_job_text.specs.ImageSymbols.{signature_begin}
use Rattle.rv_job_text.proofs.ReadImages.{begin_in_read_file, no_names, no_signature_begin, read_for}
use Rattle.rv_job_text.proofs.job_file.JobFile.signature_begin.Goals as goal

pub returns-in_default : goal.returns-in_default
returns-in_default c = sym (no_signature_begin c.args.self.now.isa _ c.args.names.now c.in_default.ensures)

pub returns-in-Some-names : goal.returns-in-Some-names
returns-in-Some-names c =
    c.begin_symbol_value.ensures
    ∙ sym (begin_in_read_file c.args.self.now.isa _ c.in-Some.elf.bytes.now c.in-Some.elf.image.now c.in-Some.ensures.1
    (read_for _ _ _ _ c.in-Some.ensures.0 c.in-Some.elf.read) c.in-Some-names.names)
    ∙ ap (λ names. signature_begin c.args.self.now.isa (option_map (λ bytes. bytes.now) c.args.self.now.bytes) names)
    (sym c.in-Some-names.is)

pub returns-in-None : goal.returns-in-None
returns-in-None c =
    sym (no_names c.args.self.now.isa _)
    ∙ ap (λ names. signature_begin c.args.self.now.isa (option_map (λ bytes. bytes.now) c.args.self.now.bytes) names)
    (sym c.in-None.is)
