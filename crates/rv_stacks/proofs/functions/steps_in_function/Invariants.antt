-- Those so far are of the function.
use Rattle.std.proofs.Common.{◌≡◌, ◌+◌, ◌≤◌, ℕ}
use Rattle.rv_counting.specs.Blocks.{address_at}
use Rattle.rv_stacks.specs.Stacks.{function_at}
use Rattle.rv_stacks.specs.StackSteps.{IsFunctionCache}
use Rattle.rv_stacks.proofs.functions.steps_in_function.Given as goal

abbrev pub invariant-loop-steps : goal.invariant-loop-steps
invariant-loop-steps l = record {
  cache : IsFunctionCache (function_at l.symbols.image.now l.symbols.bytes.now) l.cache.items;
  own : (j : ℕ) → j ≤ l.steps → function_at l.symbols.image.now l.symbols.bytes.now (address_at l.counts (l.block.index + j))
      ≡ function_at l.symbols.image.now l.symbols.bytes.now (address_at l.counts l.block.index);
}
