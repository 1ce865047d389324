-- A step, and whether it triggers a watchpoint.
use Rattle.std.specs.Prelude.{◌≡◌, Ok, Err}
use Rattle.rv_trace.specs.Run.{step_of}
use Rattle.rv_trace.specs.State.{State}
use Rattle.rv_history.specs.Stops.{TriggersWatch, TriggersNoWatch}
use Rattle.rv_history.specs.declared.stepping.StepResult.{StepResult}
use Rattle.rv_history.specs.declared.stepping.StepResult.TheVariants as step_result
use Rattle.rv_history.specs.declared.stops.Stops.{Stops}

-- the result of executing the step from the state `s`, which leads to the state `t`: it ended the run, it triggered a watchpoint, or
-- neither
abbrev pub IsStepped : Stops → State → State → StepResult → Type 0
IsStepped stops s t (step_result.Ended ending) = (step_of s ≡ Err ending) × (t ≡ s)
IsStepped stops s t step_result.WatchTriggered = (step_of s ≡ Ok t) × TriggersWatch stops s t
IsStepped stops s t step_result.NotTriggered = (step_of s ≡ Ok t) × TriggersNoWatch stops s t
