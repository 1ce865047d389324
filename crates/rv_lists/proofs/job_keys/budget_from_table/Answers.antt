use Rattle.std.proofs.Common.{rules}
use Rattle.rv_lists.specs.JobList.{budget_from_table}
use Rattle.rv_lists.proofs.job_keys.budget_from_table.Goals as goal

pub returns-then-n-from : goal.returns-then-n-from
unfolding budget_from_table
returns-then-n-from c = search rules
