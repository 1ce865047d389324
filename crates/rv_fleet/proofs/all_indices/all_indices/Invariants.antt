use Rattle.std.proofs.Common.{◌≡◌, ◌<◌, ℕ, length}
use Rattle.std.specs.Prelude.{slice_index_or}
use Rattle.rv_fleet.proofs.all_indices.all_indices.Given as goal

abbrev pub invariant-loop-index : goal.invariant-loop-index
invariant-loop-index l = (length l.indices.items ≡ l.index)
    × ((k d : ℕ) → k < l.index → slice_index_or l.indices.items k d ≡ k)
