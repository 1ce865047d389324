use Rattle.std.proofs.Common.{rules}
use Rattle.rv_machine.proofs.hart.Hart.sync_code.Goals as goal

pub returns : goal.returns
returns c = search rules
