-- What is counted so far, in addition to what was counted before.
use Rattle.std.proofs.Common.{◌-◌, ◌≤◌, Ok}
use Rattle.rv_trace.specs.IntermediateState.{IsIntermediateState}
use Rattle.rv_trace.specs.Machine.{state_of}
use Rattle.rv_counting.specs.Counters.{counts_of, IsCountingFrom}
use Rattle.rv_counting.proofs.count.follow_run.Given as goal

abbrev pub invariant-steps : goal.invariant-steps
invariant-steps l = record {
  within : l.remaining ≤ l.budget;
  counting : IsCountingFrom (counts_of l.fn.counter) l.fn.counter.cache.generation l.budget (l.budget - l.remaining) (state_of l.initial.machine)
      (state_of l.machine) l.counter;
  run : IsIntermediateState (Ok (state_of l.initial.machine)) l.budget (l.budget - l.remaining) (state_of l.machine);
}

abbrev pub decreases-steps : goal.decreases-steps
decreases-steps l = l.remaining
