use Rattle.std.proofs.Common.{None, Some, arith, inl, inr, refl}
use Rattle.std.proofs.lemmas.Result.{err_from_is_err_and}
use Rattle.rvtest_app.specs.CommandOutputs.{outputs_of}
use Rattle.rvtest_app.proofs.Results.{IfOk-map}
use Rattle.rvtest_app.proofs.StopLemmas.{IfErr-map}
use Rattle.rvtest_app.proofs.view.JobsView.write_view.Goals as goal

pub returns-in_err-requested-clause-stopped : goal.returns-in_err-requested-clause-stopped
returns-in_err-requested-clause-stopped g c =
    let is = err_from_is_err_and c.from_residual.result c.from_residual.ensures.1 in
    rw (is.1, is.2) (inr (inl c.in_err-requested.ensures.stopped))

pub returns-in-Some-clause-written : goal.returns-in-Some-clause-written
returns-in-Some-clause-written g c =
    IfOk-map c.write_selected.result _ _
    (λ status put. record {
      jobs = c.in_ok-requested.requested.jobs;
      selection = Some c.in-Some.selection.items;
      shard = c.in_ok-requested.requested.context.shard;
      old_rows = c.in_ok-requested.requested.context.old;
      notes = c.in_ok-requested.requested.notes.items;
      requested_jobs = rw c.in-Some.is at c.in_ok-requested.ensures.requested;
      between = outputs_of g.F.Outputs.committed g.O.Sink.accepted g.E.Sink.accepted g.E.Sink.failure_count
          (record c.args.destinations.now { errors = c.write_message.new.errors });
      reported = (refl, rw c.as_slice.ensures.value at c.write_message.ensures, refl);
      written = put.1;
      exit_status = put.0;
    })
    (rw c.as_slice-in-Some.ensures.value at c.write_selected.ensures.written)

pub returns-in-Some-clause-status_bound : goal.returns-in-Some-clause-status_bound
returns-in-Some-clause-status_bound g c =
    IfOk-map c.write_selected.result _ _ (λ status put. omega (arith, put.0)) c.write_selected.ensures.written

pub returns-in-Some-clause-stopped : goal.returns-in-Some-clause-stopped
returns-in-Some-clause-stopped g c =
    IfErr-map c.write_selected.result _ _
    (λ stop is. inr (inr (record {
      jobs = c.in_ok-requested.requested.jobs;
      selection = c.in-Some.selection.items;
      shard = c.in_ok-requested.requested.context.shard;
      old_rows = c.in_ok-requested.requested.context.old;
      notes = c.in_ok-requested.requested.notes.items;
      requested_jobs = rw c.in-Some.is at c.in_ok-requested.ensures.requested;
      failed = is;
    })))
    (rw c.as_slice-in-Some.ensures.value at c.write_selected.ensures.stopped)

pub returns-clause-written : goal.returns-clause-written
returns-clause-written g c = record {
  jobs = c.in_ok-requested.requested.jobs;
  selection = None;
  shard = c.in_ok-requested.requested.context.shard;
  old_rows = c.in_ok-requested.requested.context.old;
  notes = c.in_ok-requested.requested.notes.items;
  requested_jobs = rw c.in-None.is at c.in_ok-requested.ensures.requested;
  between = outputs_of g.F.Outputs.committed g.O.Sink.accepted g.E.Sink.accepted g.E.Sink.failure_count
      (record c.args.destinations.now { errors = c.write_message.new.errors });
  reported = (refl, rw c.as_slice.ensures.value at c.write_message.ensures, refl);
  written = refl;
  exit_status = refl;
}
