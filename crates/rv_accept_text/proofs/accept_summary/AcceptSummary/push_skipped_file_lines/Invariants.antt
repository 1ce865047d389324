use Rattle.std.proofs.Common.{◌≡◌, ◌++◌, take}
use Rattle.std.specs.List.{flat_map}
use Rattle.rv_accept_text.specs.FileLines.{skipped_file_line}
use Rattle.rv_accept_text.proofs.accept_summary.AcceptSummary.push_skipped_file_lines.Given as goal

abbrev pub invariant-loop-file : goal.invariant-loop-file
invariant-loop-file l = l.out.items ≡ l.fn.out.items ++ flat_map (skipped_file_line l.fn.self.list l.fn.self.golden_texts.now) (take l.file-index l.fn.self.files.now)
