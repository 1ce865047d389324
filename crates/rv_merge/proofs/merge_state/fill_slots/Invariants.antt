use Rattle.std.proofs.Common.{◌≡◌, ◌+◌, length, drop}
use Rattle.std.specs.Prelude.{vec_len}
use Rattle.std.specs.Vec.Iter.{into_iter_items, into_iter_len}
use Rattle.rv_merge.specs.MergeState.{filled_slots}
use Rattle.rv_merge.proofs.merge_state.fill_slots.Given as goal

abbrev pub invariant-loop-row : goal.invariant-loop-row
invariant-loop-row l = record {
  filled : filled_slots (drop l.at l.numbers) (into_iter_items l.row-iterator) l.slots.items
      ≡ filled_slots l.numbers l.fn.rows.items l.initial.slots.items;
  long : vec_len l.slots ≡ vec_len l.initial.slots;
  left : l.at + into_iter_len l.row-iterator ≡ length l.numbers;
}
