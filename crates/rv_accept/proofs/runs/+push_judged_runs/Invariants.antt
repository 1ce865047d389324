use Rattle.std.proofs.Common.{length}
use Rattle.rv_accept.proofs.runs.+push_judged_runs.Given as goal

abbrev pub decreases-push_judged_runs : goal.decreases-push_judged_runs
decreases-push_judged_runs l = length l.jobs.now
