use Rattle.std.proofs.Common.{rules}
use Rattle.rv_lists.proofs.job.JobList.single.Goals as goal

pub returns : goal.returns
returns c = search rules
