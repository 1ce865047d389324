use Rattle.std.proofs.Common.{◌≡◌, take}
use Rattle.rv_job_text.specs.TotalsLine.{failure_count}
use Rattle.rv_job_text.proofs.failure_counts.failure_count.Given as goal

abbrev pub invariant-loop-failure : goal.invariant-loop-failure
invariant-loop-failure l = l.count ≡ failure_count (take l.failure-index l.failures) l.kind
