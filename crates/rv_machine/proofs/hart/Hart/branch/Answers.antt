use Rattle.std.proofs.Common.{rules}
use Rattle.rv_machine.proofs.hart.Hart.branch.Goals as goal

pub returns-then-is_misaligned-clause-effect : goal.returns-then-is_misaligned-clause-effect
returns-then-is_misaligned-clause-effect c = search rules
