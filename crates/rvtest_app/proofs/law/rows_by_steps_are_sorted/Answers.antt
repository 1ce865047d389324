use Rattle.rvtest_app.proofs.StepOrder.{sorted_by_steps}
use Rattle.rvtest_app.proofs.law.rows_by_steps_are_sorted.Goals as goal

pub returns : goal.returns
returns c = sorted_by_steps
