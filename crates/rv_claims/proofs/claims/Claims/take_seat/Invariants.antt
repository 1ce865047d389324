use Rattle.std.proofs.Common.{◌≡◌, []}
use Rattle.rv_claims.specs.Draws.{view}
use Rattle.rv_claims.proofs.claims.Claims.take_seat.Given as goal

abbrev pub invariant-loop-index : goal.invariant-loop-index
invariant-loop-index l = (l.seat.table_id ≡ l.self.table) × (l.seat.me ≡ (view l.self.pieces [] [] [], []))
