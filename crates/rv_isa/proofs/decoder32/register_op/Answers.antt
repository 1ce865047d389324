use Rattle.std.proofs.Common.{rules}
use Rattle.rv_isa.proofs.decoder32.register_op.Goals as goal

pub returns-in-1 : goal.returns-in-1
returns-in-1 c = search rules
