use Rattle.std.proofs.Common.{rules}
use Rattle.rv_machine.proofs.Targets.{has_unset}
use Rattle.rv_machine.proofs.hart.Hart.is_misaligned.Goals as goal

pub returns : goal.returns
returns c = search (rules, has_unset)
