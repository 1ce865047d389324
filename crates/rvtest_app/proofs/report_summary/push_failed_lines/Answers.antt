use Rattle.rv_expect.specs.Judgement.{judge_view}
use Rattle.rvtest_app.specs.ReportSummary.{failed_line}
use Rattle.rv_diff.proofs.Public.{text_all, text_more}
use Rattle.rvtest_app.proofs.report_summary.push_failed_lines.Goals as goal

pub loop-row-preserved : goal.loop-row-preserved
loop-row-preserved c =
    text_more (failed_line (judge_view c.args.judge.now)) c.args.rows.now c.loop-row.row-index c.row-item.result c.args.text.now.items
    c.loop-row.text.items c.push_failed_line.new.text.items c.loop-row-test.true c.row-item.is c.loop-row.invariant
    c.in_ok-push_failed_line.ensures

pub returns : goal.returns
returns c =
    text_all (failed_line (judge_view c.args.judge.now)) c.args.rows.now c.loop-row.row-index c.args.text.now.items
    c.loop-row.text.items c.loop-row-test.false c.loop-row.invariant
