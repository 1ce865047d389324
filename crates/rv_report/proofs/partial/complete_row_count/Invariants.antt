use Rattle.std.proofs.Common.{◌≡◌, ◌++◌, take}
use Rattle.rv_report.specs.Saved.{numbered_rows_text}
use Rattle.rv_report.proofs.partial.complete_row_count.Given as goal

abbrev pub invariant-loop-at : goal.invariant-loop-at
invariant-loop-at l = l.bytes ≡ numbered_rows_text (take l.at l.numbers) (take l.at l.rows) ++ l.rest
