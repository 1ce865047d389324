use Rattle.std.proofs.Common.{inr, refl}
use Rattle.std.proofs.lemmas.Result.{err_from_is_err_and}
use Rattle.rvtest_app.proofs.diff.diff_reports.Goals as goal

pub returns-in_err-output-clause-stopped : goal.returns-in_err-output-clause-stopped
returns-in_err-output-clause-stopped g c =
    let is = err_from_is_err_and c.from_residual.result c.from_residual.ensures.1 in
    rw (is.1, is.2) (inr c.in_err-output.ensures.stopped)

pub returns-clause-written : goal.returns-clause-written
returns-clause-written g c = record {
  text = c.as_slice-2.result.now;
  notes = c.as_slice.result.now;
  diff = rw (c.as_slice-2.ensures.value, c.as_slice.ensures.value) c.in_ok-output.ensures.diff;
  between = record {
    out = g.O.Sink.accepted c.args.destinations.now.out;
    errors = g.E.Sink.accepted c.write_message.new.errors;
    failures = g.E.Sink.failure_count c.write_message.new.errors;
    committed = g.F.Outputs.committed c.args.destinations.now.files;
  };
  reported = (refl, c.write_message.ensures, refl);
  written = (c.in_ok-write_results.ensures.written, refl, refl, refl);
}
