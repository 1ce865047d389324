-- How many rows of a run are done, and how many of them failed.
use Rattle.std.specs.Prelude.{◌≡◌, List, count_by, length}
use Rattle.rv_expect.specs.Judgement.{JudgeView, fails}
use Rattle.rv_terminal.specs.declared.tally_value.Tally.{Tally}
use Rattle.rv_rows.specs.declared_row.Row.{Row}

-- the tally is the number of these rows, and how many of them are failures according to this judge
pub record IsTallyOf (judging : JudgeView) (rows : List Row) (tally : Tally) : Type 0 where
  pub done : tally.done ≡ length rows
  pub failed : tally.failed ≡ count_by (fails judging) rows
