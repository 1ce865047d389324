use Rattle.std.proofs.Common.{rules}
use Rattle.rv_isa.proofs.ByQuadrant.{by_quadrant}
use Rattle.rv_isa.proofs.decoder16.lui_or_addi16sp_word.Goals as goal

pub returns-then-rd-eq2 : goal.returns-then-rd-eq2
returns-then-rd-eq2 c = search (rules, by_quadrant)

pub returns-else-rd-eq2 : goal.returns-else-rd-eq2
returns-else-rd-eq2 c = search (rules, by_quadrant)
