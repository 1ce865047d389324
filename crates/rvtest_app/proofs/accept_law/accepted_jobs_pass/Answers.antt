use Rattle.rvtest_app.proofs.AcceptedAgain.{passes_after}
use Rattle.rvtest_app.proofs.accept_law.accepted_jobs_pass.Goals as goal

pub returns : goal.returns
returns c = passes_after
