use Rattle.std.proofs.Common.{arith}
use Rattle.std.proofs.lemmas.Grind.{common_steps}
use Rattle.rv_files.proofs.input.read_once.Goals as goal

pub returns : goal.returns
returns g c = grind (arith, common_steps)
