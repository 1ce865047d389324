use Rattle.std.proofs.Common.{rules}
use Rattle.rv_isa.proofs.ByQuadrant.{by_quadrant}
use Rattle.rv_isa.proofs.decoder16.quadrant0_word.Goals as goal

pub returns-in-0 : goal.returns-in-0
returns-in-0 c = search (rules, by_quadrant)
