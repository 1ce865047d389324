use Rattle.std.proofs.Common.{rules}
use Rattle.rv_machine.proofs.hart.Hart.store.Goals as goal

pub returns-clause-effect : goal.returns-clause-effect
returns-clause-effect c = search rules
