use Rattle.std.proofs.Common.{◌≡◌, ◌++◌, take}
use Rattle.std.specs.List.{flat_map}
use Rattle.rv_accept_text.specs.FileLines.{file_line}
use Rattle.rv_accept_text.proofs.accept_summary.AcceptSummary.push_file_lines.Given as goal

abbrev pub invariant-loop-file : goal.invariant-loop-file
invariant-loop-file l = l.out.items ≡ l.fn.out.items ++ flat_map (file_line l.fn.self.list) (take l.file-index l.fn.self.files.now)
