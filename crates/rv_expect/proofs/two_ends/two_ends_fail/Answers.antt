use Rattle.rv_expect.proofs.TwoEnds.{fails}
use Rattle.rv_expect.proofs.two_ends.two_ends_fail.Goals as goal

pub returns : goal.returns
returns c = fails
