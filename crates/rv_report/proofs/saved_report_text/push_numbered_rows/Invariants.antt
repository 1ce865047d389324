use Rattle.std.proofs.Common.{◌≡◌, ◌++◌, take, string_bytes}
use Rattle.rv_report.specs.Saved.{numbered_rows_text}
use Rattle.rv_report.proofs.saved_report_text.push_numbered_rows.Given as goal

abbrev pub invariant-loop-at : goal.invariant-loop-at
invariant-loop-at l =
    string_bytes l.text ≡ string_bytes l.fn.text ++ numbered_rows_text (take l.at l.numbers) (take l.at l.rows)
