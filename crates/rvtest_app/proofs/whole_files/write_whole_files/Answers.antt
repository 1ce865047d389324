use Rattle.std.proofs.Common.{◌∙◌, [], ap, length}
use Rattle.rv_expect.specs.Judgement.{judge_view}
use Rattle.rvtest_app.specs.ReportSummary.{failed_line}
use Rattle.rvtest_app.proofs.PutTexts.{texts_of_rows}
use Rattle.rvtest_app.proofs.whole_files.write_whole_files.Goals as goal

pub returns-clause-out_written : goal.returns-clause-out_written
returns-clause-out_written g c = λ report_path junit_path report junit.
    let told = texts_of_rows (failed_line (judge_view c.args.suite.judge)) c.as_slice-2.result.now c.args.rows
    (c.as_slice-2.ensures.len ∙ c.in-Ok.ensures.len ∙ ap length c.as_slice.ensures) in
    rw told at (c.put_files.ensures.out_written [] report_path junit_path report junit)

pub returns-clause-committed : goal.returns-clause-committed
returns-clause-committed g c = λ report_path junit_path report junit.
    let told = texts_of_rows (failed_line (judge_view c.args.suite.judge)) c.as_slice-2.result.now c.args.rows
    (c.as_slice-2.ensures.len ∙ c.in-Ok.ensures.len ∙ ap length c.as_slice.ensures) in
    rw told at (c.put_files.ensures.committed [] report_path junit_path report junit)

pub returns-clause-committed_after_error : goal.returns-clause-committed_after_error
returns-clause-committed_after_error g c = λ junit_path junit.
    let told = texts_of_rows (failed_line (judge_view c.args.suite.judge)) c.as_slice-2.result.now c.args.rows
    (c.as_slice-2.ensures.len ∙ c.in-Ok.ensures.len ∙ ap length c.as_slice.ensures) in
    rw told at (c.put_files.ensures.committed_after_error junit_path junit)
