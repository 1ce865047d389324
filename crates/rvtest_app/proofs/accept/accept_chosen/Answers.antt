use Rattle.std.proofs.Common.{inr, refl}
use Rattle.std.proofs.lemmas.Result.{err_from_is_err_and}
use Rattle.rvtest_app.specs.CommandOutputs.{outputs_of}
use Rattle.rvtest_app.proofs.AcceptStops.{files_unput, stop_of_unread}
use Rattle.rvtest_app.proofs.Acceptances.{outcome_told}
use Rattle.rvtest_app.proofs.Results.{IfOk-map}
use Rattle.rvtest_app.proofs.StopLemmas.{IfErr-map}
use Rattle.rvtest_app.proofs.accept.accept_chosen.Goals as goal

pub returns-in_err-changes-clause-stopped : goal.returns-in_err-changes-clause-stopped
returns-in_err-changes-clause-stopped g c =
    let is = err_from_is_err_and c.from_residual-in_err-changes.result c.from_residual-in_err-changes.ensures.1 in
    rw (is.1, is.2)
    (inr (stop_of_unread (g.D.Inputs.contents c.args.host.now.inputs.now) c.args.args.now c.args.list.now.jobs _
    (rw c.as_slice-2.ensures.value at c.in_err-changes.ensures.stopped)))

pub returns-clause-accepted : goal.returns-clause-accepted
returns-clause-accepted g c =
    let contents = g.D.Inputs.contents c.args.host.now.inputs.now in
    let outcomes = c.in_ok-changes.changes in
    IfOk-map c.write_accepted.result _ _
    (λ status put. record {
      after_check = outputs_of g.F.Outputs.committed g.O.Sink.accepted g.E.Sink.accepted g.E.Sink.failure_count c.checked_jobs.new.destinations;
      outside = c.in_ok-selected.ensures.outside_reported;
      rows = c.in_ok-rows.rows.items;
      after_run = outputs_of g.F.Outputs.committed g.O.Sink.accepted g.E.Sink.accepted g.E.Sink.failure_count c.run_selected.new.destinations;
      ran = rw (c.in_ok-selected.ensures.jobs, c.in_ok-selected.ensures.selection) at c.in_ok-rows.ensures.rows;
      runs = c.in_ok-runs.runs.items;
      are_judged = rw c.as_slice-2.ensures.value at c.in_ok-runs.ensures;
      summary = put.summary;
      summarized = rw (c.as_slice.ensures.value, c.as_slice-2.ensures.value)
          at (outcome_told contents c.args.args.now _ _ outcomes.golden_texts.items outcomes.files.items outcomes.new put.summary refl
          c.in_ok-changes.ensures.runs c.in_ok-changes.ensures.golden_texts
          c.in_ok-changes.ensures.files c.in_ok-changes.ensures.edited c.in_ok-changes.ensures.intended
          c.in_ok-changes.ensures.unchanged put.parts);
      written = put.written;
    })
    c.write_accepted.ensures.written

pub returns-clause-stopped : goal.returns-clause-stopped
returns-clause-stopped g c =
    let outcomes = c.in_ok-changes.changes in
    IfErr-map c.write_accepted.result _ _
    (λ stop is. inr (files_unput (g.D.Inputs.contents c.args.host.now.inputs.now) c.args.args.now c.args.list.now.jobs _
    outcomes.new.runs.items outcomes.golden_texts.items outcomes.files.items stop refl
    (rw c.as_slice-2.ensures.value at c.in_ok-changes.ensures.golden_texts)
    c.in_ok-changes.ensures.files is))
    c.write_accepted.ensures.stopped
