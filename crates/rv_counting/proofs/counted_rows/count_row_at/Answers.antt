-- The run that was counted is a part of the job's run.
use Rattle.rv_counting.proofs.counted_rows.count_row_at.Goals as goal

pub row_from_with_recent-requires-clause-intermediate : goal.row_from_with_recent-requires-clause-intermediate
row_from_with_recent-requires-clause-intermediate c = rw c.in-Some.is at c.in_ok-run.ensures.run
