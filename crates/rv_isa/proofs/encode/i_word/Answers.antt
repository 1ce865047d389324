use Rattle.std.proofs.Common.{rules}
use Rattle.rv_isa.proofs.Fields.{field_self}
use Rattle.rv_isa.proofs.encode.i_word.Goals as goal

pub returns-clause-rs1 : goal.returns-clause-rs1
returns-clause-rs1 c = search (rules, field_self)
