use Rattle.std.proofs.Common.{length}
use Rattle.rvtest_app.proofs.accept_inputs.+push_outside_notes.Given as goal

abbrev pub decreases-push_outside_notes : goal.decreases-push_outside_notes
decreases-push_outside_notes g l = length l.golden.now
