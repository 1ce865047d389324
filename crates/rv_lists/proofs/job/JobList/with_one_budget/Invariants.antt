use Rattle.std.proofs.Common.{◌≡◌, ◌++◌, take, drop, map}
use Rattle.rv_lists.specs.Jobs.{job_with_budget}
use Rattle.rv_lists.proofs.job.JobList.with_one_budget.Given as goal

abbrev pub invariant-loop-at : goal.invariant-loop-at
invariant-loop-at l = l.items.items ≡ map (job_with_budget l.fn.steps) (take l.at l.fn.self) ++ drop l.at l.fn.self
