use Rattle.std.proofs.Common.{◌≡◌, ◌≤◌, take}
use Rattle.std.specs.Prelude.{count_by}
use Rattle.rv_accept_text.specs.AcceptLines.{is_skipped_job}
use Rattle.rv_accept_text.proofs.accept_summary.skipped_job_count.Given as goal

abbrev pub invariant-loop-run : goal.invariant-loop-run
invariant-loop-run l = record {
  count : l.count ≡ count_by (is_skipped_job) (take l.run-index l.runs);
  few : l.count ≤ l.run-index;
}
