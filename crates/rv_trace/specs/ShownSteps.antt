-- The part of a run that a trace shows.
use Rattle.std.specs.Prelude.{◌≡◌, ℕ, ◌+◌, ◌-◌, ◌<◌, ◌⊎◌, length, min, slice_index, slice_index_or, Some, Ok, Err}
use Rattle.rv_machine.specs.declared_instruction.Instr.{Instr}
use Rattle.rv_machine.specs.declared.ending.Ending.TheVariants.{Budget}
use Rattle.rv_machine.specs.Run.{RunResult, step_of}
use Rattle.rv_machine.specs.State.{State, register}
use Rattle.rv_trace.specs.declared.code.Code.{Code}
use Rattle.rv_trace.specs.declared.step.TracedStep.{TracedStep}
use Rattle.rv_trace.specs.declared.trace.Trace.{Trace}
use Rattle.rv_trace.specs.Code.{code_at, size_of_code}
use Rattle.rv_trace.specs.Steps.{instr_at, traced_step}
use Rattle.rv_trace.specs.Trace.{state_after}

-- the trace shows the end of the run from the state `s` with the result `result`: the pc, the encoding there and the registers of the final
-- state, and the last `last` instructions, or all if there are fewer; each of these completed, and is shown with the states before and
-- after it
pub record ShowsEndOfRun (trace : Trace) (last : ℕ) (result : RunResult) (s : State) : Type 0 where
  pub pc : trace.pc ≡ result.state.pc
  pub code : trace.code ≡ code_at result.state.bus result.state.pc
  pub registers : (n : ℕ) → n < 32 → slice_index trace.registers n ≡ register result.state n
  pub count : length trace.steps ≡ min result.steps last
  pub lines : (k : ℕ) (d : TracedStep) → k < min result.steps last
      → let index = result.steps - min result.steps last + k in
      slice_index_or trace.steps k d ≡ traced_step (state_after index s) (state_after (index + 1) s)

-- in the run from the state `s` with the result `result`, all instructions before the end completed, and the one at the end did not, unless
-- the budget was used up before it
pub record IsEndOfRun (result : RunResult) (s : State) : Type 0 where
  pub completed : (k : ℕ) → k < result.steps → step_of (state_after k s) ≡ Ok (state_after (k + 1) s)
  pub ended : (result.ending ≡ Budget) ⊎ (step_of result.state ≡ Err result.ending)

-- `code` is the encoding at the pc of the state `s`, and has the instruction `i` and `size` bytes
pub record IsCodeOf (s : State) (i : Instr) (size : ℕ) (code : Code) : Type 0 where
  pub encoding : code_at s.bus s.pc ≡ Some code
  pub instruction : instr_at s ≡ Some i
  pub long : size_of_code code ≡ size
