use Rattle.std.proofs.Common.{inr, refl}
use Rattle.std.proofs.lemmas.Result.{err_from_is_err_and}
use Rattle.rvtest_app.proofs.console.put_job_console.Goals as goal

pub returns-in_err-row-clause-stopped : goal.returns-in_err-row-clause-stopped
returns-in_err-row-clause-stopped g c =
    let is = err_from_is_err_and c.from_residual.result c.from_residual.ensures.1 in
    rw (is.1, is.2) (inr c.in_err-row.ensures.stopped)

pub returns-clause-written : goal.returns-clause-written
returns-clause-written g c = record {
  console = c.as_slice.result.now;
  line = c.as_slice-2.result.now;
  of_job = rw (c.as_slice.ensures, c.as_slice-2.ensures.value) c.in_ok-row.ensures.reported;
  between = record {
    out = g.O.Sink.accepted c.write_results.new.out;
    errors = g.E.Sink.accepted c.args.destinations.now.errors;
    failures = g.E.Sink.failure_count c.args.destinations.now.errors;
    committed = g.F.Outputs.committed c.args.destinations.now.files;
  };
  written = (c.in_ok-write_results.ensures.written, refl, refl, refl);
  reported = (refl, c.write_message.ensures, refl);
}
