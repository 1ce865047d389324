use Rattle.rvtest_app.proofs.diff.diff_read_reports.Goals as goal

pub returns-clause-diff : goal.returns-clause-diff
returns-clause-diff c = record {
  text = rw c.requested_comparison-compare.ensures at c.in_ok-output.ensures.text;
  exit_status = rw c.requested_comparison-compare.ensures at c.in_ok-output.ensures.exit_status;
}
