use Rattle.std.proofs.Common.{◌≡◌, take, string_bytes}
use Rattle.rv_base.specs.Sinks.{IsPartlyWritten}
use Rattle.rv_report.specs.Saved.{numbered_rows_text}
use Rattle.rv_report.proofs.saved_writer.write_numbered_rows.Given as goal

abbrev pub invariant-loop-at : goal.invariant-loop-at
invariant-loop-at g l = record {
  partly_written : IsPartlyWritten (g.W.Sink.accepted l.initial.out) (g.W.Sink.accepted l.out) (string_bytes l.text)
      (numbered_rows_text (take l.at l.numbers) (take l.at l.rows));
  counted : g.W.Sink.failure_count l.out ≡ g.W.Sink.failure_count l.initial.out;
}
