use Rattle.rv_claims.proofs.Public.{falls, took_some}
use Rattle.rv_engine.proofs.worker.WorkerContextWorker.compute_chunks.Goals as goal

pub loop-piece-smaller : goal.loop-piece-smaller
loop-piece-smaller g c =
    let t = took_some _ _ _ _ c.in-Some.piece (c.take.ensures.none, c.take.ensures.drawn) c.in-Some.is in
    falls _ _ c.in-Some.piece _ t.0 t.1 t.2
