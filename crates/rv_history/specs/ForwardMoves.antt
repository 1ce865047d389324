-- Forward moves in progress.
use Rattle.std.specs.Prelude.{ℕ, ◌≤◌, ◌<◌}
use Rattle.rv_trace.specs.State.{State}
use Rattle.rv_history.specs.StoredStates.{IsAt}
use Rattle.rv_history.specs.Moves.{HasNoForwardStop, IsNextStop}
use Rattle.rv_history.specs.declared.forward_move.MoveEnd.{MoveEnd}
use Rattle.rv_history.specs.declared.forward_move.ForwardMove.{ForwardMove}
use Rattle.rv_history.specs.declared.stops.Stops.{Stops}

-- the forward move has reached a step of the run from `start` within its budget, and has passed no stop
pub record IsMoveInProgress (stops : Stops) (start : State) (forward_move : ForwardMove) : Type 0 where
  pub is_at : IsAt start forward_move.at
  pub order : forward_move.from ≤ forward_move.at.step
  pub within : forward_move.at.step ≤ forward_move.budget
  pub passed_no_stop : (j : ℕ) → forward_move.from ≤ j → j < forward_move.at.step → HasNoForwardStop stops forward_move.bounds forward_move.budget start forward_move.from j

-- the forward move ends at its next stop, and its machine is in the state of the run at this step
abbrev pub IsForwardMoveEnd : Stops → State → ForwardMove → MoveEnd → Type 0
IsForwardMoveEnd stops start forward_move end =
    IsAt start end.at × IsNextStop stops forward_move.bounds forward_move.budget start forward_move.from end.at.step end.outcome
