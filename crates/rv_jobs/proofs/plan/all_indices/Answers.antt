use Rattle.std.proofs.Common.{◌≡◌, arith, length, ap}
use Rattle.rv_jobs.proofs.Needing.{needed_all}
use Rattle.rv_jobs.proofs.plan.all_indices.Goals as goal

pub returns-clause-paths : goal.returns-clause-paths
returns-clause-paths c =
    let count : length c.args.jobs.now ≡ c.loop-index.index = omega (arith, ap length c.as_slice-count.ensures.value) in
    needed_all c.args.jobs.now c.as_slice-count.ensures.jobs _ (omega (arith, c.loop-index.invariant.0))
    (λ k d inside. c.loop-index.invariant.1 k d (omega (arith, inside, c.loop-index.invariant.0)))
