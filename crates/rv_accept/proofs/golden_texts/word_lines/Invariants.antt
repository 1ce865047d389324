use Rattle.std.proofs.Common.{◌≡◌, take}
use Rattle.std.specs.List.{flat_map}
use Rattle.rv_rows.specs.Report.{word_line}
use Rattle.rv_accept.proofs.golden_texts.word_lines.Given as goal

abbrev pub invariant-loop-word : goal.invariant-loop-word
invariant-loop-word l = l.text.items ≡ flat_map word_line (take l.word-index l.words)
