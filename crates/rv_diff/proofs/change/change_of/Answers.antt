use Rattle.std.proofs.Common.{refl}
use Rattle.rv_diff.proofs.change.change_of.Goals as goal

pub returns-in-Some-None : goal.returns-in-Some-None
returns-in-Some-None c = rw (c.in-Some-None.is-0, c.in-Some-None.is-1) refl
