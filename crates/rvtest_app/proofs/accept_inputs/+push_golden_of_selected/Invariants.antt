use Rattle.std.proofs.Common.{length}
use Rattle.rvtest_app.proofs.accept_inputs.+push_golden_of_selected.Given as goal

abbrev pub decreases-push_golden_of_selected : goal.decreases-push_golden_of_selected
decreases-push_golden_of_selected l = length l.jobs.now
