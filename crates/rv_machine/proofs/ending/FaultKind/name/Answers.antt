use Rattle.std.proofs.Common.{rules}
use Rattle.rv_machine.proofs.ending.FaultKind.name.Goals as goal

pub returns-in-LoadAccess : goal.returns-in-LoadAccess
returns-in-LoadAccess c = search rules
