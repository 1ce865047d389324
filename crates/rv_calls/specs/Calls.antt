-- The calls of a run that have not returned when it ends.
use Rattle.std.specs.Prelude.{ℕ, zero, suc, ◌+◌, ◌%◌, List, [], ◌∷◌, Option, Some, None, Result, Ok, Err, option_map, option_and_then, fold}
use Rattle.std.specs.Result.{result_ok}
use Rattle.rv_trace.specs.Plans.{PlanView}
use Rattle.rv_trace.specs.declared_job.Job.{Job}
use Rattle.rv_trace.specs.declared_ending.Ending.{Ending}
use Rattle.rv_trace.specs.Run.{step_of}
use Rattle.rv_trace.specs.State.{State, register}
use Rattle.rv_trace.specs.Rows.{start_state_in}
use Rattle.rv_trace.specs.declared.code.Code.{Code}
use Rattle.rv_trace.specs.Code.{code_at, instr_of, size_of_code}
use Rattle.rv_trace.specs.Trace.{state_after}
use Rattle.rv_calls.specs.declared.frames.Frame.{Frame}
use Rattle.rv_calls.specs.declared.run.Calls.{Calls}
use Rattle.rv_calls.specs.declared.transfer.Transfer.{Transfer}
use Rattle.rv_calls.specs.Stack.{instr_action, after_transfer}

-- ---- one step

-- the address after the encoding at a pc, or the pc itself if there is no encoding
abbrev pub after_code : ℕ → Option Code → ℕ
after_code pc None = pc
after_code pc (Some code) = (pc + size_of_code code) % 0x1_0000_0000

-- the transfer of control by the instruction with this encoding, which leads from the state `s` to the state `t`; x2 is the stack pointer
abbrev pub transfer_by : Option Code → State → State → Transfer
transfer_by code s t = record {
  action = instr_action (option_and_then instr_of code);
  from = s.pc;
  return_address = after_code s.pc code;
  to = t.pc;
  sp = register s 2;
}

-- the transfer of control by the instruction that leads from the state `s` to the state `t`
abbrev pub transfer_of : State → State → Transfer
transfer_of s t = transfer_by (code_at s.bus s.pc) s t

-- ---- a run

-- the transfer of the step from the state `s`, followed by the transfers that `rest` returns for the state after it; empty if the step does
-- not complete
abbrev pub transfer_and_more : Result State Ending → State → (State → List Transfer) → List Transfer
transfer_and_more (Ok t) s rest = transfer_of s t ∷ rest t
transfer_and_more (Err e) s rest = []

-- the transfers of the completed steps among the first `n` steps from this state
unfoldable pub transfers_from : ℕ → State → List Transfer
transfers_from zero s = []
transfers_from (suc n) s = transfer_and_more (step_of s) s (λ t. transfers_from n t)

-- the frames after these transfers, given the frames before them
abbrev pub after_transfers : List Frame → List Transfer → List Frame
after_transfers frames ts = fold after_transfer frames ts

-- the frames after a run of at most `n` steps from this state, which begins without frames
unfoldable pub frames_of_run : ℕ → State → List Frame
frames_of_run n s = after_transfers [] (transfers_from n s)

-- the pc and the frames after a run of at most `n` steps from this state
abbrev pub calls_of_run : ℕ → State → Calls
calls_of_run n s = record { pc = (state_after n s).pc; frames = frames_of_run n s }

-- the pc and the call stack at the end of the run of a plan's job within its budget, or `None` if the job is refused
unfoldable pub calls_in : PlanView → Job → Option Calls
calls_in plan job = option_map (calls_of_run job.budget) (result_ok (start_state_in plan.results job))
