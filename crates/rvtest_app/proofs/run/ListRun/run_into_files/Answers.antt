use Rattle.std.proofs.Common.{◌∙◌, refl, sym}
use Rattle.rv_expect.specs.Judgement.{judge_view}
use Rattle.rv_stream.specs.declared.stream.StreamedRun.{StreamedRun}
use Rattle.rvtest_app.proofs.RowSinks.{shown_on_errors, shown_on_out, sink_known, taken_of_run}
use Rattle.rvtest_app.specs.CommandOutputs.{outputs_of}
use Rattle.rvtest_app.specs.IntoReports.{uses_run_stdout}
use Rattle.rvtest_app.specs.Runs.{run_rows}
use Rattle.rvtest_app.proofs.run.ListRun.run_into_files.Goals as goal

pub run_and_show-errors-requires-clause-sink : goal.run_and_show-errors-requires-clause-sink
run_and_show-errors-requires-clause-sink g c κs within =
    sink_known g.F.File.Sink.accepted g.F.File.Sink.failure_count c.split_sink-report.result.1

pub run_and_show-out-requires-clause-sink : goal.run_and_show-out-requires-clause-sink
run_and_show-out-requires-clause-sink g c κs within =
    sink_known g.F.File.Sink.accepted g.F.File.Sink.failure_count c.split_sink-report.result.1

pub finish_run-requires-clause-received : goal.finish_run-requires-clause-received
finish_run-requires-clause-received g c κs within =
    let args = c.args.self.now.args.now in
    let planned = c.args.planned.now in
    let all = run_rows args.stop_after (judge_view planned.reporter.now.judge) planned.reporter.now.plan.now planned.indices.now in
    let outlets = c.in-Ok.outlets in
    let run = c.run_and_show-errors in
    rw c.in-Ok.ensures.nothing_committed
    (taken_of_run g.F.Outputs.pending_path g.F.File.Sink.accepted g.F.File.Sink.failure_count (λ (run : StreamedRun). run.rows) (g.F.Outputs.committed c.args.destinations.files) args
    c.args.context.old c.is_none.result planned.indices.now all run.result.2.ran c.split_sink-report.result.0 c.split_sink-report.result.1
    run.result.1 outlets.report c.with_sink.result outlets.junit outlets.counts c.in-Ok.ensures.open c.split_sink-report.ensures.parts
    c.with_sink.ensures c.is_none.ensures run.ensures.rows run.ensures.report_written)

pub finish_run-requires-else-uses_run_stdout-clause-received : goal.finish_run-requires-else-uses_run_stdout-clause-received
finish_run-requires-else-uses_run_stdout-clause-received g c κs within =
    let args = c.args.self.now.args.now in
    let planned = c.args.planned.now in
    let all = run_rows args.stop_after (judge_view planned.reporter.now.judge) planned.reporter.now.plan.now planned.indices.now in
    let outlets = c.in-Ok.outlets in
    let run = c.run_and_show-out in
    rw c.in-Ok.ensures.nothing_committed
    (taken_of_run g.F.Outputs.pending_path g.F.File.Sink.accepted g.F.File.Sink.failure_count (λ (run : StreamedRun). run.rows) (g.F.Outputs.committed c.args.destinations.files) args
    c.args.context.old c.is_none.result planned.indices.now all run.result.2.ran c.split_sink-report.result.0 c.split_sink-report.result.1
    run.result.1 outlets.report c.with_sink-else-uses_run_stdout.result outlets.junit outlets.counts c.in-Ok.ensures.open
    c.split_sink-report.ensures.parts c.with_sink-else-uses_run_stdout.ensures c.is_none.ensures run.ensures.rows run.ensures.report_written)

pub returns-then-uses_run_stdout-clause-written : goal.returns-then-uses_run_stdout-clause-written
returns-then-uses_run_stdout-clause-written g c =
    let before = outputs_of g.F.Outputs.committed g.O.Sink.accepted g.E.Sink.accepted g.E.Sink.failure_count c.args.destinations in
    let run = c.run_and_show-errors in
    c.finish_run.ensures.written before
    (shown_on_errors run.result.2.ran (uses_run_stdout c.args.self.now.args.now) _ before _
    (sym c.uses_run_stdout.ensures ∙ c.if-uses_run_stdout.true) refl run.ensures.shown run.ensures.no_failed_writes c.in-Ok.ensures.nothing_committed)

pub returns-else-uses_run_stdout-clause-written : goal.returns-else-uses_run_stdout-clause-written
returns-else-uses_run_stdout-clause-written g c =
    let before = outputs_of g.F.Outputs.committed g.O.Sink.accepted g.E.Sink.accepted g.E.Sink.failure_count c.args.destinations in
    let run = c.run_and_show-out in
    c.finish_run-else-uses_run_stdout.ensures.written before
    (shown_on_out run.result.2.ran (uses_run_stdout c.args.self.now.args.now) _ before _
    (sym c.uses_run_stdout.ensures ∙ c.if-uses_run_stdout.false) run.ensures.shown refl refl c.in-Ok.ensures.nothing_committed)
