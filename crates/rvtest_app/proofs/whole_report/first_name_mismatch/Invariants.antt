use Rattle.std.proofs.Common.{◌≡◌, take}
use Rattle.rv_rows.specs.Saved.{row_names}
use Rattle.rvtest_app.specs.IntoReports.{job_names}
use Rattle.rvtest_app.proofs.whole_report.first_name_mismatch.Given as goal

abbrev pub invariant-loop-index : goal.invariant-loop-index
invariant-loop-index l = take l.index (row_names l.rows) ≡ take l.index (job_names l.jobs)
