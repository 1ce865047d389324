use Rattle.std.proofs.Common.{rules}
use Rattle.rv_isa.proofs.bits.sign_extend.Goals as goal

pub returns-else-value-bits : goal.returns-else-value-bits
returns-else-value-bits c = search rules
