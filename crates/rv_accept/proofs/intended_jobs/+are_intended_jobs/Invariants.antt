use Rattle.std.proofs.Common.{length}
use Rattle.rv_accept.proofs.intended_jobs.+are_intended_jobs.Given as goal

abbrev pub decreases-are_intended_jobs : goal.decreases-are_intended_jobs
decreases-are_intended_jobs l = length l.jobs.now
