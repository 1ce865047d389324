use Rattle.std.proofs.Common.{rules}
use Rattle.rv_machine.proofs.alu.divu.Goals as goal

pub returns-then-b-eq0 : goal.returns-then-b-eq0
returns-then-b-eq0 c = search rules
