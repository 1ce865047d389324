use Rattle.rv_session.proofs.Determined.{fed_one}
use Rattle.rv_session.proofs.law.replies_are_determined.Goals as goal

pub returns : goal.returns
returns c = fed_one
