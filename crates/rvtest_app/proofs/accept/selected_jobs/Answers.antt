use Rattle.rvtest_app.proofs.Acceptances.{bare_count}
use Rattle.rvtest_app.proofs.accept.selected_jobs.Goals as goal

pub invariant_of-result : goal.invariant_of-result
invariant_of-result c = record {
  same_length = bare_count _ _ _ _ c.in_ok-jobs.ensures c.requires (rw c.as_slice.ensures.value at c.in_ok-selection.ensures);
}
