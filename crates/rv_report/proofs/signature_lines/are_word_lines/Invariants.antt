use Rattle.std.proofs.Common.{◌≡◌, bytes_eq, drop}
use Rattle.std.specs.List.{flat_map}
use Rattle.rv_report.specs.Report.{word_line}
use Rattle.rv_report.proofs.signature_lines.are_word_lines.Given as goal

abbrev pub invariant-loop-word : goal.invariant-loop-word
invariant-loop-word l =
    bytes_eq l.bytes (flat_map word_line l.words) ≡ bytes_eq l.rest (flat_map word_line (drop l.word-index l.words))
