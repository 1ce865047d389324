use Rattle.std.proofs.Common.{◌≡◌, take}
use Rattle.rvtest_app.specs.RunOutput.{job_numbers}
use Rattle.rvtest_app.proofs.rows_report.job_numbers.Given as goal

abbrev pub invariant-loop-at : goal.invariant-loop-at
invariant-loop-at l = l.numbers.items ≡ job_numbers (take l.at l.indices)
