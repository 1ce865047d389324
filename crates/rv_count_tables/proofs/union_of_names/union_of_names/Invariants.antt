-- Ahead of a sum of what is left of both lists, what stands there makes the sum of both.
use Rattle.std.proofs.Common.{◌+◌, ◌-◌, ◌≤◌, ◌++◌, List, length, drop}
use Rattle.rv_count_tables.specs.declared.table.FunctionName.{FunctionName}
use Rattle.rv_count_tables.specs.SumSteps.{NamesAddUp}
use Rattle.rv_count_tables.proofs.union_of_names.union_of_names.Given as goal

abbrev pub invariant-loop-from_a : goal.invariant-loop-from_a
invariant-loop-from_a l = record {
  within_a : l.from_a ≤ length l.a;
  within_b : l.from_b ≤ length l.b;
  ahead : (others : List FunctionName) → NamesAddUp (drop l.from_a l.a) (drop l.from_b l.b) others
      → NamesAddUp l.a l.b (l.sums.items ++ others);
}

abbrev pub decreases-loop-from_a : goal.decreases-loop-from_a
decreases-loop-from_a l = (length l.a - l.from_a) + (length l.b - l.from_b)
