-- A history as contracts see it.
use Rattle.std.specs.Prelude.{ℕ}
use Rattle.rv_trace.specs.State.{State}

-- a history as contracts see it: the start and the budget of its run, and its current step
pub record Position : Type 0 where
  pub start : State
  pub budget : ℕ
  pub step : ℕ
