use Rattle.std.proofs.Common.{◌≡◌, ◌≤◌, drop, length, map, take}
use Rattle.rvtest_app.specs.declared.rows_with_most_steps.TheConstants.{MAX_SHOWN}
use Rattle.rvtest_app.specs.ReportSummary.{rows_by_steps}
use Rattle.rv_diff.proofs.Public.{now}
use Rattle.rvtest_app.proofs.rows_with_most_steps.rows_with_most_steps.Given as goal

abbrev pub invariant-loop-left : goal.invariant-loop-left
invariant-loop-left l = record {
  rows : map now l.top_rows.items ≡ take MAX_SHOWN (rows_by_steps (drop l.left l.rows));
  few : length l.top_rows.items ≤ MAX_SHOWN;
  within : l.left ≤ length l.rows;
}

abbrev pub decreases-loop-left : goal.decreases-loop-left
decreases-loop-left l = l.left
