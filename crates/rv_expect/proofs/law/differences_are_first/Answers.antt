use Rattle.rv_expect.proofs.Differences.{first_differs}
use Rattle.rv_expect.proofs.law.differences_are_first.Goals as goal

pub returns : goal.returns
returns c = first_differs
