use Rattle.rv_engine.proofs.Hearing.{until_some}
use Rattle.rv_engine.proofs.engine.run_jobs.Goals as goal

pub returns-in-Err-ran : goal.returns-in-Err-ran
returns-in-Err-ran g c =
    until_some g.J.RunSpec.is_result g.J.RunSpec.jobs g.J.RunSpec.group (g.L.Listener.has_received c.into_parts-listener.result.0)
    (g.L.Listener.stops c.into_parts-listener.result.0) _ _ c.into_parts-listener.ensures.received
