-- The pieces so far are the indices before the next.
use Rattle.std.proofs.Common.{◌-◌, ◌≤◌, length}
use Rattle.rv_counting.specs.BatchRanges.{AreIndexRangesTo}
use Rattle.rv_counting.proofs.index_ranges.ranges_of_images.Given as goal

abbrev pub invariant-loop-from : goal.invariant-loop-from
invariant-loop-from l = record {
  within : l.from ≤ length l.indices;
  are : AreIndexRangesTo l.plan l.indices l.from l.ranges.items;
}

abbrev pub decreases-loop-from : goal.decreases-loop-from
decreases-loop-from l = length l.indices - l.from
