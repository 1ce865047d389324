use Rattle.std.proofs.Common.{◌≡◌, take, string_bytes}
use Rattle.rv_report.specs.Report.{rows_text}
use Rattle.rv_base.specs.Sinks.{IsPartlyWritten}
use Rattle.rv_report.proofs.report.write_rows.Given as goal

abbrev pub invariant-loop-index : goal.invariant-loop-index
invariant-loop-index g l = record {
  partly_written : IsPartlyWritten (g.W.Sink.accepted l.initial.out) (g.W.Sink.accepted l.out) (string_bytes l.text)
      (rows_text 0 (take l.index l.rows));
  counted : g.W.Sink.failure_count l.out ≡ g.W.Sink.failure_count l.initial.out;
}
