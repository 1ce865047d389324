use Rattle.rv_diff.proofs.Laws.{agree_where_none}
use Rattle.rv_diff.proofs.law.rows_agree_iff_no_line.Goals as goal

pub returns : goal.returns
returns c = agree_where_none
