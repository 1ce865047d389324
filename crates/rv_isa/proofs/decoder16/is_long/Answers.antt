use Rattle.std.proofs.Common.{rules}
use Rattle.rv_isa.proofs.decoder16.is_long.Goals as goal

pub returns : goal.returns
returns c = search rules
