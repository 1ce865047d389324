use Rattle.std.proofs.Common.{rules}
use Rattle.rv_lists.proofs.job.JobList.as_slice.Goals as goal

pub returns-clause-value : goal.returns-clause-value
returns-clause-value c = search rules
