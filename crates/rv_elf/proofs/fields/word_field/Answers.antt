use Rattle.std.proofs.Common.{arith}
use Rattle.std.proofs.lemmas.Grind.{common_steps}
use Rattle.rv_elf.specs.Fields.{word_at}
use Rattle.rv_elf.proofs.fields.word_field.Goals as goal

pub returns : goal.returns
unfolding word_at
returns c = grind (arith, common_steps)
