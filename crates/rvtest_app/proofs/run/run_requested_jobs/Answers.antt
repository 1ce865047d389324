use Rattle.std.proofs.Common.{inl, inr, ⊎_elim}
use Rattle.rvtest_app.proofs.Results.{OnErr-map}
use Rattle.rvtest_app.proofs.StopLemmas.{IfErr-map}
use Rattle.rvtest_app.specs.Runs.{AreJobsToRun}
use Rattle.rvtest_app.proofs.run.run_requested_jobs.Goals as goal

pub returns-in-Err-clause-stopped : goal.returns-in-Err-clause-stopped
returns-in-Err-clause-stopped g c = inr (inl c.in-Err.ensures.stopped)

pub returns-in-Some-clause-committed_after_error : goal.returns-in-Some-clause-committed_after_error
returns-in-Some-clause-committed_after_error g c =
    let found : AreJobsToRun (g.D.Inputs.contents c.args.host.now.inputs.now) c.args.args.now = record {
      jobs = c.in-Ok.requested.jobs;
      selection = c.in-Some.selection.items;
      shard = c.in-Ok.requested.context.shard;
      old_rows = c.in-Ok.requested.context.old;
      notes = c.in-Ok.requested.notes.items;
      requested_jobs = rw c.in-Some.is at c.in-Ok.ensures.requested;
      failures = c.in-Ok-requested_known_jobs.known;
      known_to_fail = rw c.as_slice.ensures.value at c.in-Ok-requested_known_jobs.ensures.known;
    } in
    OnErr-map c.run_selected_jobs.result.1 _ _ (⊎_elim inl (λ alone. inr (record { jobs_to_run = found; partly_committed = alone })))
    c.run_selected_jobs.ensures.committed_after_error

pub returns-in-Some-clause-stopped : goal.returns-in-Some-clause-stopped
returns-in-Some-clause-stopped g c =
    let found : AreJobsToRun (g.D.Inputs.contents c.args.host.now.inputs.now) c.args.args.now = record {
      jobs = c.in-Ok.requested.jobs;
      selection = c.in-Some.selection.items;
      shard = c.in-Ok.requested.context.shard;
      old_rows = c.in-Ok.requested.context.old;
      notes = c.in-Ok.requested.notes.items;
      requested_jobs = rw c.in-Some.is at c.in-Ok.ensures.requested;
      failures = c.in-Ok-requested_known_jobs.known;
      known_to_fail = rw c.as_slice.ensures.value at c.in-Ok-requested_known_jobs.ensures.known;
    } in
    IfErr-map c.run_selected_jobs.result.1 _ _ (λ stop put. inr (inr (inr (found, put)))) c.run_selected_jobs.ensures.stopped
