-- A refused job has no run.
use Rattle.std.proofs.Common.{Result, Some, subst, sym}
use Rattle.std.proofs.lemmas.List.{get_or_read}
use Rattle.rv_trace.specs.declared_job.Job.{Job}
use Rattle.rv_fleet.specs.declared_row.Refusal.{Refusal}
use Rattle.rv_trace.specs.IntermediateState.{IsIntermediateState}
use Rattle.rv_trace.specs.Machine.{state_of}
use Rattle.rv_trace.specs.Rows.{start_state_in}
use Rattle.rv_trace.specs.State.{State}
use Rattle.rv_trace.specs.Trace.{job_at}
use Rattle.rv_counting.specs.RunCounts.{AddsRun}
use Rattle.rv_counting.proofs.RunCounts.{ran_job, refused_as}
use Rattle.rv_counting.proofs.runs_counter.RunsCounter.count_job.Goals as goal

pub returns-in_default-clause-counted : goal.returns-in_default-clause-counted
returns-in_default-clause-counted c = λ d.
    let start = rw c.in_default.is at c.in_ok-machine.ensures in
    let plan = c.args.job.now.plan.now in
    refused_as plan.results (job_at plan c.args.job.now.index d) c.in_default.field-0 c.args.self.now c.requires.ready (start d)

pub returns-clause-counted : goal.returns-clause-counted
returns-clause-counted c = λ d.
    let start = rw c.in-Ok.is at c.in_ok-machine.ensures in
    let plan = c.args.job.now.plan.now in
    let index = c.args.job.now.index in
    let same = get_or_read plan.jobs index c.job.result.now c.args.job.now.within c.job.ensures.value d in
    ran_job plan.results (job_at plan index d) (state_of c.in-Ok.machine) c.args.self.now c.count_run.new.self (start d)
    (subst (λ (j : Job). AddsRun j.budget (Some (state_of c.in-Ok.machine)) c.args.self.now c.count_run.new.self) same
    c.in_ok-run.ensures.counted)

pub returns-clause-run : goal.returns-clause-run
returns-clause-run c = λ d.
    let start = rw c.in-Ok.is at c.in_ok-machine.ensures in
    let plan = c.args.job.now.plan.now in
    let index = c.args.job.now.index in
    let same = get_or_read plan.jobs index c.job.result.now c.args.job.now.within c.job.ensures.value d in
    subst (λ (j : Job). IsIntermediateState (start_state_in plan.results (job_at plan index d)) j.budget c.in_ok-run.run'.steps
    (state_of c.in_ok-run.run'.machine)) same
    (subst (λ (r : Result State Refusal). IsIntermediateState r c.job.result.now.budget c.in_ok-run.run'.steps
    (state_of c.in_ok-run.run'.machine)) (sym (start d)) c.in_ok-run.ensures.run)
