use Rattle.std.proofs.Common.{◌≡◌, ◌<◌, ℕ, None, true}
use Rattle.std.specs.Prelude.{is_some, slice_index_or}
use Rattle.rv_merge.proofs.merge.first_missing_shard.Given as goal

abbrev pub invariant-loop-at : goal.invariant-loop-at
invariant-loop-at l = (k : ℕ) → k < l.at → is_some (slice_index_or l.sources k None) ≡ true
