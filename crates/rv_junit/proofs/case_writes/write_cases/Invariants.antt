use Rattle.std.proofs.Common.{◌≡◌, ◌++◌, take}
use Rattle.rv_stream.specs.Sinks.{IsPartlyWritten}
use Rattle.rv_job_text.specs.Judgement.{judge_view}
use Rattle.rv_junit.specs.Junit.{case_text}
use Rattle.rv_stream.specs.Streams.{joined_row_texts}
use Rattle.rv_junit.proofs.case_writes.write_cases.Given as goal

abbrev pub invariant-loop-i : goal.invariant-loop-i
invariant-loop-i g l = record {
  partly_written : IsPartlyWritten (g.W.Sink.accepted l.initial.out) (g.W.Sink.accepted l.out) l.text.items
      (l.initial.text.items ++ joined_row_texts (case_text l.suite.name.now (judge_view l.suite.judge) (g.T.RowReporter.line l.cases.reporter.now)) l.cases.indices.now (take l.i l.cases.rows.now));
  counted : g.W.Sink.failure_count l.out ≡ g.W.Sink.failure_count l.initial.out;
}
