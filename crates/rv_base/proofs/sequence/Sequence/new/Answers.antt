use Rattle.std.proofs.Common.{refl}
use Rattle.rv_base.proofs.sequence.Sequence.new.Goals as goal

pub returns : goal.returns
returns g c = refl
