use Rattle.std.proofs.Common.{rules}
use Rattle.rv_jobs.proofs.plan.Plan.job.Goals as goal

pub returns-clause-value : goal.returns-clause-value
returns-clause-value c = search rules
