use Rattle.std.proofs.Common.{◌≡◌, ◌-◌, drop, take}
use Rattle.rv_rows.specs.RecentOutcomes.{AreOutcomesOfPlan}
use Rattle.rv_fleet.specs.Batches.{batch_rows}
use Rattle.rv_fleet.proofs.piece.rows_of_chunk.Given as goal

abbrev pub invariant-loop-i : goal.invariant-loop-i
invariant-loop-i l = record {
  rows : l.rows.items ≡ take (l.i - l.start) (drop l.start (batch_rows l.pieces.batch));
  recent : AreOutcomesOfPlan l.pieces.batch.plan.now l.worker_state.recent;
}
