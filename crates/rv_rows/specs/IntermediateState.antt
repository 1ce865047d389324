-- An intermediate state of a run within a budget.
use Rattle.std.specs.Prelude.{◌≡◌, ◌≤◌, ℕ, Result, Ok}
use Rattle.rv_machine.specs.Run.{run_of}
use Rattle.rv_machine.specs.State.{State}
use Rattle.rv_report.specs.declared.row.Refusal.{Refusal}

-- a run that begins in the state `start` completes at least `steps` steps, and `state` is the state after them; `steps` is at most the
-- budget
pub record IsIntermediateState (start : Result State Refusal) (budget steps : ℕ) (state : State) : Type 0 where
  pub first : State
  pub starts : start ≡ Ok first
  pub completed : (run_of steps first).steps ≡ steps
  pub same : state ≡ (run_of steps first).state
  pub within : steps ≤ budget
