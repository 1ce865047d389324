use Rattle.rv_fleet.specs.WorkerPromises.{IsFresh, AreFresh}
use Rattle.rv_fleet.proofs.threads.split_passes.Given as goal

abbrev pub invariant-loop : goal.invariant-loop
invariant-loop l = IsFresh l.claims l.last × AreFresh l.claims l.passes.items
