use Rattle.std.proofs.Common.{◌∙◌, ap, take}
use Rattle.std.proofs.lemmas.List.{take_min}
use Rattle.rv_elf.specs.declared.function.TheConstants.{MAX_FUNCTION_NAME_LEN}
use Rattle.rv_elf.proofs.function.first_bytes.Goals as goal

pub returns : goal.returns
returns c = ap (λ n. take n c.args.bytes.now) c.min.ensures ∙ take_min MAX_FUNCTION_NAME_LEN c.args.bytes.now
