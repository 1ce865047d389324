use Rattle.std.proofs.lemmas.List.Elements.{All-rest}
use Rattle.rv_fleet.specs.Batches.{batch_rows}
use Rattle.rv_fleet.specs.WorkerPromises.{KeepsPromise}
use Rattle.rv_fleet.proofs.Collects.{All-first, pieces_worked}
use Rattle.rv_fleet.proofs.collect.collect_chunks.Goals as goal

pub store_chunks-requires-clause-chunks : goal.store_chunks-requires-clause-chunks
store_chunks-requires-clause-chunks c =
    let has = All-first (KeepsPromise (batch_rows c.args.pieces.now.batch) c.args.pieces.now.group c.args.claims.now) c.in-Some.field-0 _ _
    c.in-Some.ensures.steps.0 c.loop-pass.invariant.1 in
    pieces_worked c.args.pieces.now _ c.in-Some.field-0 _ has c.in_ok-chunks.was c.requires.pieces

pub loop-pass-preserved : goal.loop-pass-preserved
loop-pass-preserved c = (
  c.store_chunks.ensures,
  All-rest (KeepsPromise (batch_rows c.args.pieces.now.batch) c.args.pieces.now.group c.args.claims.now) _ _ _ c.in-Some.ensures.steps.0 c.loop-pass.invariant.1,
  c.join_passes.ensures,
)
