use Rattle.std.proofs.Common.{◌∙◌, ◌++◌, ap, refl}
use Rattle.rv_expect.specs.Judgement.{judge_view}
use Rattle.rvtest_app.specs.IntoReports.{streamed_rows, run_report_rest, run_report_text}
use Rattle.rvtest_app.proofs.ChosenTexts.{run_report_split}
use Rattle.rvtest_app.proofs.PutTexts.{out_same, part_same, placed_same, same_junit}
use Rattle.rvtest_app.proofs.Results.{OnErr-from}
use Rattle.rvtest_app.proofs.run.ListRun.write_run_files.Goals as goal

pub returns-clause-out_written : goal.returns-clause-out_written
returns-clause-out_written g c = λ report_path junit_path report junit.
    let planned = c.args.planned.now in
    let ahead = streamed_rows c.args.context.old planned.indices.now c.args.rows in
    out_same _ _ junit_path report_path _ _ _ _
    (rw c.report_with_context.ensures.rows at (c.in_ok-put_files.ensures.out_written ahead report_path junit_path report junit))
    (same_junit _ _ (judge_view planned.reporter.now.judge) _ _ planned.indices.now c.args.rows
    (c.as_bytes.ensures.value ∙ c.suite_name.ensures)
    refl)
    (c.report_with_context.ensures.text
    ∙ ap (λ jobs. run_report_text c.args.context.old jobs planned.indices.now c.args.context.shard c.args.rows) c.jobs.ensures.value)

pub returns-clause-committed : goal.returns-clause-committed
returns-clause-committed g c = λ report_path junit_path report junit.
    let planned = c.args.planned.now in
    let ahead = streamed_rows c.args.context.old planned.indices.now c.args.rows in
    placed_same _ _ junit_path report_path _ _ _ _
    (rw c.report_with_context.ensures.rows at (c.in_ok-put_files.ensures.committed ahead report_path junit_path report junit))
    (same_junit _ _ (judge_view planned.reporter.now.judge) _ _ planned.indices.now c.args.rows
    (c.as_bytes.ensures.value ∙ c.suite_name.ensures)
    refl)
    (ap (λ rest. ahead ++ rest) (c.report_with_context.ensures.rest
    ∙ ap (λ jobs. run_report_rest c.args.context.old jobs planned.indices.now c.args.context.shard c.args.rows) c.jobs.ensures.value)
    ∙ run_report_split c.args.context.old _ planned.indices.now c.args.context.shard c.args.rows planned.rising planned.within
    c.requires.same_length)

pub returns-in_err-put_files-clause-committed_after_error : goal.returns-in_err-put_files-clause-committed_after_error
returns-in_err-put_files-clause-committed_after_error g c = λ junit_path junit.
    let planned = c.args.planned.now in
    OnErr-from c.from_residual.result _
    (part_same _ _ junit_path _ _ (rw c.report_with_context.ensures.rows at (c.in_err-put_files.ensures.committed_after_error junit_path junit))
    (same_junit _ _ (judge_view planned.reporter.now.judge) _ _ planned.indices.now c.args.rows
    (c.as_bytes.ensures.value ∙ c.suite_name.ensures)
    refl))
