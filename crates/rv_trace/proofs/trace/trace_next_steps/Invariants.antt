use Rattle.std.proofs.Common.{◌≡◌, ◌++◌, ◌-◌}
use Rattle.rv_machine.specs.Machine.{state_of}
use Rattle.rv_trace.specs.Steps.{steps_from}
use Rattle.rv_trace.specs.Trace.{state_after}
use Rattle.rv_trace.proofs.trace.trace_next_steps.Given as goal

abbrev pub invariant-loop : goal.invariant-loop
invariant-loop l = record {
  shown : l.steps.items ++ steps_from (l.count - l.counter) (state_of l.machine)
      ≡ steps_from l.count (state_of l.initial.machine);
  reached : state_after (l.count - l.counter) (state_of l.machine) ≡ state_after l.count (state_of l.initial.machine);
}
