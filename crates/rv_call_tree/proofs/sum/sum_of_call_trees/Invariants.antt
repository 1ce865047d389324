-- What stands in front of both places is added.
use Rattle.std.proofs.Common.{◌+◌, ◌-◌, ◌≤◌, length}
use Rattle.std.specs.List.{AllByRecursion}
use Rattle.rv_call_tree.specs.Sums.{FitsFields}
use Rattle.rv_call_tree.proofs.Merged.{Added}
use Rattle.rv_call_tree.proofs.sum.sum_of_call_trees.Given as goal

abbrev pub invariant-loop-from_a : goal.invariant-loop-from_a
invariant-loop-from_a l = record {
  within_a : l.from_a ≤ length l.a;
  within_b : l.from_b ≤ length l.b;
  added : Added l.a l.b l.from_a l.from_b l.sums.items;
  fits : AllByRecursion FitsFields l.sums.items;
}

abbrev pub decreases-loop-from_a : goal.decreases-loop-from_a
decreases-loop-from_a l = (length l.a - l.from_a) + (length l.b - l.from_b)
