use Rattle.std.proofs.Common.{◌≡◌, ◌++◌}
use Rattle.std.specs.Vec.Iter.{into_iter_items}
use Rattle.rv_merge.specs.MergeState.{rows_from_slots}
use Rattle.rv_merge.proofs.merge.rows_from_slots.Given as goal

abbrev pub invariant-loop-slot : goal.invariant-loop-slot
invariant-loop-slot l = l.rows.items ++ rows_from_slots (into_iter_items l.slot-iterator) ≡ rows_from_slots l.fn.slots.items
