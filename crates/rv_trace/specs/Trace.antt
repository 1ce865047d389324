-- The last instructions of a run, and the state in which it ended.
use Rattle.std.specs.Prelude.{ℕ, ◌-◌, List, Option, Some, option_map, map, min, slice_index_or}
use Rattle.std.specs.List.{range_with_len}
use Rattle.std.specs.Result.{result_ok}
use Rattle.rv_rows.specs.declared_answers.PathResult.{PathResult}
use Rattle.rv_rows.specs.Plans.{PlanView, result_or_unreadable}
use Rattle.rv_rows.specs.declared_job.Job.{Job}
use Rattle.rv_machine.specs.Run.{run_of}
use Rattle.rv_machine.specs.State.{State, register}
use Rattle.rv_rows.specs.Rows.{content_if_read, start_state_in}
use Rattle.rv_trace.specs.declared.step.TracedStep.{TracedStep}
use Rattle.rv_trace.specs.declared.trace.Trace.{Trace}
use Rattle.rv_trace.specs.Code.{code_at}
use Rattle.rv_trace.specs.Steps.{steps_from}

-- the job at an index of a plan, or `default` if there is no such index
abbrev pub job_at : PlanView → ℕ → Job → Job
job_at plan index default = slice_index_or plan.jobs index default

-- the bytes of a job's image, or `None` if they were not read
abbrev pub image_bytes : List PathResult → Job → Option (List ℕ)
image_bytes answers job = content_if_read (Some (result_or_unreadable answers job.image))

-- the state after at most `n` steps of a run from the state `s`
abbrev pub state_after : ℕ → State → State
state_after n s = (run_of n s).state

-- the values of the registers x0 to x31 in a state
unfoldable pub registers_of : State → List ℕ
registers_of s = map (register s) (range_with_len 0 32)

-- the trace that ends in the state `s` and has these instructions before it
abbrev pub trace_up_to : List TracedStep → State → Trace
trace_up_to steps s = record {
  steps = steps;
  pc = s.pc;
  code = code_at s.bus s.pc;
  registers = registers_of s;
}

-- the trace of a run from the state `s`, of which `steps` steps complete: the last `max_steps` instructions, or all if there are fewer, and
-- the state after them
unfoldable pub trace_of : ℕ → ℕ → State → Trace
trace_of steps max_steps s =
    let shown = min steps max_steps in
    let t = state_after (steps - shown) s in
    trace_up_to (steps_from shown t) (state_after shown t)

-- the trace of a job's run, of which `steps` steps complete, with at most `max_steps` instructions; `None` if the job is refused
unfoldable pub trace_in : PlanView → Job → ℕ → ℕ → Option Trace
trace_in plan job steps max_steps =
    option_map (trace_of steps max_steps) (result_ok (start_state_in plan.results job))
