use Rattle.std.proofs.Common.{◌≡◌, ℕ, ◌+◌, ◌<◌}
use Rattle.std.specs.Mem.Slots.{slots_items}
use Rattle.std.specs.Int.{bit_at}
use mathlib.Core.Option.{some}
use lib.ListN.{get_elem?}
use Rattle.rv_claims.proofs.claims.has_all_assigned_indices.Given as goal

abbrev pub invariant-loop-index : goal.invariant-loop-index
invariant-loop-index l = (p : ℕ) → p < l.index → get_elem? (slots_items l.closed.words) (p + 1) ≡ some 1
    → bit_at l.bits p ≡ 1
