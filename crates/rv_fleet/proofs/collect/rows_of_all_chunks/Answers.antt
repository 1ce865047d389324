use Rattle.std.proofs.Common.{◌≡◌, ◌∙◌, arith}
use Rattle.rv_fleet.specs.Batches.{batch_rows}
use Rattle.rv_fleet.specs.Pieces.{piece_rows}
use Rattle.rv_fleet.proofs.Chunks.{chunk_more}
use Rattle.rv_fleet.proofs.Collects.{place_here, places_left, pieces_all}
use Rattle.rv_fleet.proofs.collect.rows_of_all_chunks.Goals as goal

pub rows_in_slot-requires-clause-slot : goal.rows_in_slot-requires-clause-slot
rows_in_slot-requires-clause-slot g c κs within =
    place_here (λ k rows. rows ≡ piece_rows c.args.pieces.now k) _ _ _ _
    c.in-Some.ensures.steps.0 c.loop-slot.invariant.2

pub loop-slot-preserved : goal.loop-slot-preserved
loop-slot-preserved g c = (
  chunk_more (batch_rows c.args.pieces.now.batch) c.args.pieces.now.group c.loop-slot.number _ _ _ c.loop-slot.invariant.0
      c.in_ok-append.ensures.items (c.into_vec.ensures ∙ c.in_ok-part.ensures),
  omega (arith, c.loop-slot.invariant.1, c.in-Some.ensures.steps.1),
  places_left (λ k rows. rows ≡ piece_rows c.args.pieces.now k) _ _ _ _
      c.in-Some.ensures.steps.0 c.loop-slot.invariant.2,
)

pub returns : goal.returns
returns g c = c.new.ensures ∙ (c.loop-slot.invariant.0
    ∙ pieces_all (batch_rows c.args.pieces.now.batch) _ c.loop-slot.number c.args.pieces.now.group_in_range.0
    (omega (arith, c.loop-slot.invariant.1, c.in-None.ensures.steps.0)))
