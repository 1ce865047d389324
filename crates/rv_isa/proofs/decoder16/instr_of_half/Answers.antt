use Rattle.std.proofs.Common.{rules}
use Rattle.rv_isa.proofs.ByQuadrant.{by_set}
use Rattle.rv_isa.proofs.decoder16.instr_of_half.Goals as goal

pub returns-clause-value : goal.returns-clause-value
returns-clause-value c = search (rules, by_set)
