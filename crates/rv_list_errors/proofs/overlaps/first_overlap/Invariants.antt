use Rattle.std.proofs.Common.{◌<◌, ℕ}
use Rattle.rv_list_errors.specs.JobFaults.{IsDisjointFromRest}
use Rattle.rv_list_errors.proofs.overlaps.first_overlap.Given as goal

abbrev pub invariant-loop-at : goal.invariant-loop-at
invariant-loop-at l = (other : ℕ) → other < l.at → IsDisjointFromRest l.regions other
