use Rattle.std.proofs.Common.{◌∙◌, sym}
use Rattle.rv_job_text.proofs.ReadImages.{no_symbol_in_file, read_for, symbol_found, symbol_in_read_file}
use Rattle.rv_job_text.proofs.job_file.JobFile.symbol_at.Goals as goal

pub returns-in-Some : goal.returns-in-Some
returns-in-Some c =
    symbol_found _ _ c.symbol_at.ensures
    ∙ sym (symbol_in_read_file c.args.self.now.isa _ c.in-Some.elf.bytes.now c.in-Some.elf.image.now c.in-Some.ensures.1
    (read_for _ _ _ _ c.in-Some.ensures.0 c.in-Some.elf.read) c.args.address)

pub returns-in-None : goal.returns-in-None
returns-in-None c = sym (no_symbol_in_file c.args.self.now.isa _ c.args.address c.in-None.ensures)
