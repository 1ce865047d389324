use Rattle.std.proofs.Common.{length}
use Rattle.rv_accept.proofs.golden_texts.+push_golden_texts_of_runs.Given as goal

abbrev pub decreases-push_golden_texts_of_runs : goal.decreases-push_golden_texts_of_runs
decreases-push_golden_texts_of_runs l = length l.jobs.now
