use Rattle.std.proofs.Common.{◌∙◌, ap}
use Rattle.std.specs.Prelude.{Ok}
use Rattle.rv_engine.specs.declared.listener.Flow.{Flow}
use Rattle.rv_fleet.proofs.BatchRuns.{all_heard}
use Rattle.rv_fleet.proofs.batch_rows.run_batch.Goals as goal

pub returns-in-Continue : goal.returns-in-Continue
returns-in-Continue g c =
    let kept = c.run_jobs-kept.result.0 in
    c.new.ensures
    ∙ all_heard c.args.batch.now kept.allocation_failed kept.rows.items c.run_jobs-kept.result.1
    (c.in_ok-ran.was ∙ ap (λ (flow : Flow). Ok flow) c.in-Continue.is) c.run_jobs-kept.ensures
