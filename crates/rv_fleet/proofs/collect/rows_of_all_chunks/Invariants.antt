use Rattle.std.proofs.Common.{◌≡◌, ℕ, ◌+◌, ◌*◌, take, IfSome, None}
use Rattle.std.specs.Prelude.{slice_index_or}
use Rattle.std.specs.Vec.Iter.{into_iter_items, into_iter_len}
use Rattle.rv_fleet.specs.Pieces.{piece_count, piece_rows}
use Rattle.rv_fleet.specs.Batches.{batch_rows}
use Rattle.rv_fleet.proofs.collect.rows_of_all_chunks.Given as goal

abbrev pub invariant-loop-slot : goal.invariant-loop-slot
invariant-loop-slot g l =
    (l.rows.items ≡ take (l.number * l.pieces.group) (batch_rows l.pieces.batch))
    × (l.number + into_iter_len l.slot-iterator ≡ piece_count l.pieces)
    × ((k : ℕ) → IfSome (slice_index_or (into_iter_items l.slot-iterator) k None)
    (λ rows. rows ≡ piece_rows l.pieces (l.number + k)))
