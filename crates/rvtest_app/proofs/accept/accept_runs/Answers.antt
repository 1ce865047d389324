use Rattle.std.proofs.Common.{None, Some, inl, inr, refl, ⊎_elim}
use Rattle.std.proofs.lemmas.Result.{err_from_is_err_and}
use Rattle.rvtest_app.specs.CommandOutputs.{outputs_of}
use Rattle.rvtest_app.proofs.Results.{IfOk-map}
use Rattle.rvtest_app.proofs.StopLemmas.{IfErr-map}
use Rattle.rvtest_app.proofs.accept.accept_runs.Goals as goal

pub returns-in_err-list-clause-stopped : goal.returns-in_err-list-clause-stopped
returns-in_err-list-clause-stopped g c =
    let is = err_from_is_err_and c.from_residual.result c.from_residual.ensures.1 in
    rw (is.1, is.2) (inl c.in_err-list.ensures.stopped)

pub returns-in-Some-clause-accepted : goal.returns-in-Some-clause-accepted
returns-in-Some-clause-accepted g c =
    IfOk-map c.accept_chosen.result _ _
    (λ status accepted. record {
      bytes = c.in_ok-list.list.text.items;
      read = c.in_ok-list.ensures.read;
      jobs = c.in_ok-list.list.jobs;
      listed = c.in_ok-list.ensures.listed;
      chosen = Some c.in-Some.chosen.items;
      notes = c.in_ok-list.list.notes.items;
      choice = rw c.in-Some.is at c.in_ok-list.ensures.chosen;
      between = outputs_of g.F.Outputs.committed g.O.Sink.accepted g.E.Sink.accepted g.E.Sink.failure_count
          (record c.args.destinations.now { errors = c.write_message.new.errors });
      reported = (refl, rw c.as_slice.ensures.value at c.write_message.ensures, refl);
      accepted = accepted;
    })
    (rw c.as_slice-in-Some.ensures.value at c.accept_chosen.ensures.accepted)

pub returns-in-Some-clause-stopped : goal.returns-in-Some-clause-stopped
returns-in-Some-clause-stopped g c =
    IfErr-map c.accept_chosen.result _ _
    (λ stop is. inr (
      c.in_ok-list.list.text.items,
      (c.in_ok-list.ensures.read, (c.in_ok-list.list.jobs, (c.in_ok-list.ensures.listed, is))),
    ))
    c.accept_chosen.ensures.stopped

pub returns-clause-accepted : goal.returns-clause-accepted
returns-clause-accepted g c = record {
  bytes = c.in_ok-list.list.text.items;
  read = c.in_ok-list.ensures.read;
  jobs = c.in_ok-list.list.jobs;
  listed = c.in_ok-list.ensures.listed;
  chosen = None;
  notes = c.in_ok-list.list.notes.items;
  choice = rw c.in-None.is at c.in_ok-list.ensures.chosen;
  between = outputs_of g.F.Outputs.committed g.O.Sink.accepted g.E.Sink.accepted g.E.Sink.failure_count
      (record c.args.destinations.now { errors = c.write_message.new.errors });
  reported = (refl, rw c.as_slice.ensures.value at c.write_message.ensures, refl);
  accepted = (refl, refl);
}

pub returns-in-Some-clause-inputs_preserved : goal.returns-in-Some-clause-inputs_preserved
returns-in-Some-clause-inputs_preserved g c =
    ⊎_elim inl (λ apart. inr (
      c.in_ok-list.list.text.items,
      c.in_ok-list.list.jobs,
      c.in-Some.chosen.items,
      (c.in_ok-list.ensures.read, (c.in_ok-list.ensures.listed, apart)),
    ))
    (rw c.as_slice-in-Some.ensures.value at c.accept_chosen.ensures.inputs_preserved)
