use Rattle.std.proofs.Common.{[], false}
use Rattle.rv_expect.specs.Judgement.{judge_view}
use Rattle.rvtest_app.proofs.run.ListRun.run_and_show.Given as goal

abbrev pub ghosts-stream_rows : goal.ghosts-stream_rows
ghosts-stream_rows g a = record {
  accepted_before = g.W.Sink.accepted a.output.out.sink;
  failure_count = g.W.Sink.failure_count a.output.out.sink;
  has_sink = false;
  keeps_failure_texts = false;
  max_failures = a.options.now.max_failures;
  judge = judge_view a.options.now.judge;
  row_text = λ _ _. [];
}
