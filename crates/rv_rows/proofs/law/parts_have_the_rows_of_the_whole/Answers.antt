use Rattle.rv_rows.proofs.SameResults.{rows_same}
use Rattle.rv_rows.proofs.law.parts_have_the_rows_of_the_whole.Goals as goal

pub returns : goal.returns
returns c jobs some others places same = rows_same jobs some others places same
