use Rattle.std.proofs.Common.{◌≡◌, ◌++◌, take, string_bytes}
use Rattle.std.specs.List.{flat_map}
use Rattle.rv_report.specs.Report.{word_line}
use Rattle.rv_report.proofs.signature_lines.push_word_lines.Given as goal

abbrev pub invariant-loop-word : goal.invariant-loop-word
invariant-loop-word l = string_bytes l.text ≡ string_bytes l.fn.text ++ flat_map word_line (take l.word-index l.words)
