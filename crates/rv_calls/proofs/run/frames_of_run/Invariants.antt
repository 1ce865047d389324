use Rattle.std.proofs.Common.{◌≡◌, ◌-◌}
use Rattle.rv_trace.specs.Machine.{state_of}
use Rattle.rv_trace.specs.Trace.{state_after}
use Rattle.rv_calls.specs.Calls.{frames_of_run}
use Rattle.rv_calls.proofs.Runs.{LeadsTo}
use Rattle.rv_calls.proofs.run.frames_of_run.Given as goal

abbrev pub invariant-steps : goal.invariant-steps
invariant-steps l = record {
  ahead : LeadsTo (l.budget - l.counter) (state_of l.machine) l.frames.items
      (frames_of_run l.budget (state_of l.initial.machine));
  reached : state_after (l.budget - l.counter) (state_of l.machine) ≡ state_after l.budget (state_of l.initial.machine);
}
