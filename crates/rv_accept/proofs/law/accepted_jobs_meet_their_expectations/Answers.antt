use Rattle.rv_accept.proofs.Meeting.{meets}
use Rattle.rv_accept.proofs.law.accepted_jobs_meet_their_expectations.Goals as goal

pub returns : goal.returns
returns c = meets
