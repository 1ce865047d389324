-- The table of the jobs is that of the others.
use Rattle.rv_counting.proofs.Orders.{one_table_of_jobs, reordered}
use Rattle.rv_counting.proofs.law.jobs_have_one_table.Goals as goal

pub returns : goal.returns
returns c = λ answers jobs others t u p h k. one_table_of_jobs answers others t u (reordered answers jobs others t p h) k
