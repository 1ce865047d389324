use Rattle.std.proofs.Common.{length}
use Rattle.rv_accept.proofs.sharing.+push_with_sharing_jobs.Given as goal

abbrev pub decreases-push_with_sharing_jobs : goal.decreases-push_with_sharing_jobs
decreases-push_with_sharing_jobs l = length l.jobs.now
