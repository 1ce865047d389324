use Rattle.std.proofs.Common.{slice_index_or}
use Rattle.rv_machine.specs.Machine.{state_of}
use Rattle.rv_trace.proofs.Rows.{no_trace, trace_found}
use Rattle.rv_trace.proofs.trace.trace_job.Goals as goal

pub returns-in_ok-trace_run-in-Ok : goal.returns-in_ok-trace_run-in-Ok
returns-in_ok-trace_run-in-Ok c = λ d.
    trace_found c.args.job.now.plan.now (slice_index_or c.args.job.now.plan.now.jobs c.args.job.now.index d) c.args.steps c.args.max_steps
    (state_of c.in-Ok.machine) c.in_ok-trace_run-in-Ok.field-0
    (rw c.in-Ok.is at (c.in_ok-machine.ensures d)) c.in_ok-trace_run-in-Ok.ensures

pub returns-in-Err : goal.returns-in-Err
returns-in-Err c = λ d.
    no_trace c.args.job.now.plan.now (slice_index_or c.args.job.now.plan.now.jobs c.args.job.now.index d) c.args.steps c.args.max_steps
    c.in-Err.field-0 (rw c.in-Err.is at (c.in_ok-machine.ensures d))
