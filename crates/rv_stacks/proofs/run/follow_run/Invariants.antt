-- What is counted so far, and what there is to count ahead, is that of the run.
use Rattle.std.proofs.Common.{◌-◌, ◌≤◌}
use Rattle.rv_counting.specs.Counters.{IsCounting}
use Rattle.rv_counting.specs.Machine.{state_of}
use Rattle.rv_stacks.specs.Stacks.{function_at}
use Rattle.rv_stacks.specs.StackSteps.{IsFunctionCache, AreStacksSoFar}
use Rattle.rv_stacks.proofs.run.follow_run.Given as goal

abbrev pub invariant-steps : goal.invariant-steps
invariant-steps l = record {
  within : l.remaining ≤ l.budget;
  counting : IsCounting l.budget (l.budget - l.remaining) (state_of l.initial.machine) (state_of l.machine) l.counter;
  cache : IsFunctionCache (function_at l.symbols.image.now l.symbols.bytes.now) l.stacks.cache.items;
  so_far : AreStacksSoFar (function_at l.symbols.image.now l.symbols.bytes.now) l.budget (l.budget - l.remaining) (state_of l.initial.machine)
      (state_of l.machine) l.stacks.frames.items l.stacks.walk;
}

abbrev pub decreases-steps : goal.decreases-steps
decreases-steps l = l.remaining
