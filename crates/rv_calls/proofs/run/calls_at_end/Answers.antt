use Rattle.std.proofs.Common.{get_or, sym, ap}
use Rattle.std.proofs.lemmas.List.{get_or_read}
use Rattle.rv_trace.specs.declared_job.Job.{Job}
use Rattle.rv_trace.specs.Machine.{state_of}
use Rattle.rv_calls.proofs.Jobs.{calls_found, no_calls}
use Rattle.rv_calls.proofs.run.calls_at_end.Goals as goal

pub returns-in_ok-calls_of_run-in-Ok : goal.returns-in_ok-calls_of_run-in-Ok
returns-in_ok-calls_of_run-in-Ok c = λ d.
    let plan = c.args.job.now.plan.now in
    let index = c.args.job.now.index in
    let same = get_or_read plan.jobs index c.job.result.now c.args.job.now.within c.job.ensures.value d in
    calls_found plan (get_or plan.jobs index d) c.job.result.now.budget (state_of c.in-Ok.machine)
    c.in_ok-calls_of_run-in-Ok.field-0 (rw c.in-Ok.is at (c.in_ok-machine.ensures d))
    (ap (λ (j : Job). j.budget) (sym same)) c.in_ok-calls_of_run-in-Ok.ensures

pub returns-in-Err : goal.returns-in-Err
returns-in-Err c = λ d.
    let plan = c.args.job.now.plan.now in
    no_calls plan (get_or plan.jobs c.args.job.now.index d) c.in-Err.field-0
    (rw c.in-Err.is at (c.in_ok-machine.ensures d))
