use Rattle.std.proofs.Common.{rules}
use Rattle.rv_isa.proofs.isa.Isa.has_c.Goals as goal

pub returns-in_default : goal.returns-in_default
returns-in_default c = search rules
