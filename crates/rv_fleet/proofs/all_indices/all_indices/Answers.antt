use Rattle.std.proofs.Common.{arith}
use Rattle.rv_fleet.proofs.Choosing.{rows_all, counted_within, counted_rising}
use Rattle.rv_fleet.proofs.all_indices.all_indices.Goals as goal

pub returns-clause-within : goal.returns-clause-within
returns-clause-within c =
    counted_within c.args.plan.now _ (omega (arith, c.loop-index.invariant.0, c.jobs-jobs.ensures.value))
    (λ k d inside. c.loop-index.invariant.1 k d (omega (arith, inside, c.loop-index.invariant.0)))

pub returns-clause-increasing : goal.returns-clause-increasing
returns-clause-increasing c = counted_rising _ (λ k d inside. c.loop-index.invariant.1 k d
    (omega (arith, inside, c.loop-index.invariant.0)))

pub returns-clause-rows : goal.returns-clause-rows
returns-clause-rows c = rows_all _ _ (omega (arith, c.loop-index.invariant.0, c.jobs-jobs.ensures.value))
    (λ k d inside. c.loop-index.invariant.1 k d (omega (arith, inside, c.loop-index.invariant.0)))
