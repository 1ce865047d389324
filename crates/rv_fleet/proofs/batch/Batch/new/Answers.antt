use Rattle.std.proofs.Common.{arith}
use Rattle.rv_fleet.proofs.Choosing.{rising_few}
use Rattle.rv_fleet.proofs.batch.Batch.new.Goals as goal

pub invariant_of-result-clause-few : goal.invariant_of-result-clause-few
invariant_of-result-clause-few c = omega (
  arith,
  rising_few _ _ c.requires.increasing c.requires.within,
  c.jobs-jobs.ensures.value,
  c.jobs-jobs.ensures.few,
)
