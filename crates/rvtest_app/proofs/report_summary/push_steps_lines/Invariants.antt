use Rattle.std.proofs.Common.{◌≡◌, ◌++◌, take}
use Rattle.std.specs.List.{flat_map}
use Rattle.rvtest_app.specs.ReportSummary.{steps_line}
use Rattle.rvtest_app.proofs.report_summary.push_steps_lines.Given as goal

abbrev pub invariant-loop-row : goal.invariant-loop-row
invariant-loop-row l =
    l.text.items ≡ l.fn.text.items ++ flat_map (λ row. steps_line row.now) (take l.row-index l.rows)
