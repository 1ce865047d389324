use Rattle.rv_session.proofs.Ending.{end_told}
use Rattle.rv_session.proofs.law.ends_are_reported.Goals as goal

pub returns : goal.returns
returns c = end_told
