use Rattle.std.proofs.Common.{rules}
use Rattle.rv_isa.proofs.ByQuadrant.{by_quadrant}
use Rattle.rv_isa.proofs.decoder16.quadrant2_word.Goals as goal

pub returns-in-2 : goal.returns-in-2
returns-in-2 c = search (rules, by_quadrant)
