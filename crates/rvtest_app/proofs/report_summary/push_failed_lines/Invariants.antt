use Rattle.std.proofs.Common.{◌≡◌, ◌++◌, take}
use Rattle.std.specs.List.{flat_map}
use Rattle.rv_expect.specs.Judgement.{judge_view}
use Rattle.rvtest_app.specs.ReportSummary.{failed_line}
use Rattle.rvtest_app.proofs.report_summary.push_failed_lines.Given as goal

abbrev pub invariant-loop-row : goal.invariant-loop-row
invariant-loop-row l =
    l.text.items ≡ l.fn.text.items ++ flat_map (failed_line (judge_view l.judge)) (take l.row-index l.rows)
