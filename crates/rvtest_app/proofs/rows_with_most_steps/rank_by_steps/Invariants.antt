use Rattle.std.proofs.Common.{◌≡◌, ◌+◌, drop}
use Rattle.rvtest_app.proofs.StepRanks.{rank_in}
use Rattle.rvtest_app.proofs.rows_with_most_steps.rank_by_steps.Given as goal

abbrev pub invariant-loop-rank : goal.invariant-loop-rank
invariant-loop-rank l = rank_in l.steps l.top_rows ≡ l.rank + rank_in l.steps (drop l.rank l.top_rows)
