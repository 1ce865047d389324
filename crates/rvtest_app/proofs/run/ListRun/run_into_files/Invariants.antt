use Rattle.std.proofs.Common.{None}
use Rattle.std.specs.Prelude.{is_some}
use Rattle.rv_expect.specs.Judgement.{judge_view}
use Rattle.rvtest_app.specs.FailureLines.{stores_failure_texts}
use Rattle.rvtest_app.specs.IntoReports.{report_row_text}
use Rattle.rvtest_app.specs.RowSinks.{sink_failures, sink_received}
use Rattle.rvtest_app.proofs.run.ListRun.run_into_files.Given as goal

abbrev pub ghosts-run_and_show : goal.ghosts-run_and_show
ghosts-run_and_show g a = record {
  accepted_before = sink_received g.F.File.Sink.accepted a.sink;
  failure_count = sink_failures g.F.File.Sink.failure_count a.sink;
  has_sink = is_some a.sink;
  keeps_failure_texts = stores_failure_texts a.self.now.args.now a.planned.now.reporter.now.verbosity;
  max_failures = None;
  judge = judge_view a.planned.now.reporter.now.judge;
  row_text = report_row_text a.rows.now.is_streaming;
}

abbrev pub ghosts-run_and_show-2 : goal.ghosts-run_and_show-2
ghosts-run_and_show-2 g a = record {
  accepted_before = sink_received g.F.File.Sink.accepted a.sink;
  failure_count = sink_failures g.F.File.Sink.failure_count a.sink;
  has_sink = is_some a.sink;
  keeps_failure_texts = stores_failure_texts a.self.now.args.now a.planned.now.reporter.now.verbosity;
  max_failures = None;
  judge = judge_view a.planned.now.reporter.now.judge;
  row_text = report_row_text a.rows.now.is_streaming;
}
