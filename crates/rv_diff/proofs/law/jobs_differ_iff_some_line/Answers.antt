use Rattle.rv_diff.proofs.Laws.{differ_where_due}
use Rattle.rv_diff.proofs.law.jobs_differ_iff_some_line.Goals as goal

pub returns : goal.returns
returns c = differ_where_due
