use Rattle.std.proofs.Common.{◌≡◌, ◌≤◌, take}
use Rattle.std.specs.Prelude.{count_by}
use Rattle.rv_accept_text.specs.GoldenFiles.{is_skipped}
use Rattle.rv_accept_text.proofs.accept_summary.AcceptSummary.skipped_file_count.Given as goal

abbrev pub invariant-loop-file : goal.invariant-loop-file
invariant-loop-file l = record {
  count : l.count ≡ count_by (is_skipped l.fn.self.list) (take l.file-index l.fn.self.files.now);
  few : l.count ≤ l.file-index;
}
