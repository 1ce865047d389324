-- What `show` prints about a report: the failures, the line of totals, and the rows with the most steps.
use Rattle.std.specs.Prelude.{◌≡◌, ◌==◌, ◌≤◌, ℕ, List, [], ◌∷◌, ◌++◌, None, codes, filter, if◌then◌else◌, nat_lt, take}
use Rattle.std.specs.Fmt.{decimal}
use Rattle.std.specs.List.{AllPairs, flat_map}
use Rattle.std.specs.List.Sorted.{IsPermutation}
use Rattle.rv_rows.specs.declared_row.Row.{Row}
use Rattle.rv_rows.specs.Report.{line}
use Rattle.rv_job_text.specs.TotalsLine.{totals_line}
use Rattle.rv_expect.specs.Judgement.{JudgeView, fails, judgement}
use Rattle.rv_job_text.specs.ResultLine.{result_line}

-- the result line of a row that is a failure, without symbol and reason, which a report does not contain; empty if the row is not a failure
abbrev pub failed_line : JudgeView → Row → List ℕ
failed_line judging row = if fails judging row then result_line (judgement judging row) row None None else []

-- ---- the most steps

-- the sorted rows with `row` inserted after all rows that have more steps
abbrev pub inserted_by_steps : Row → List Row → List Row
inserted_by_steps row [] = row ∷ []
inserted_by_steps row (first ∷ more) =
    if nat_lt row.steps first.steps then first ∷ inserted_by_steps row more else row ∷ first ∷ more

-- the rows sorted by descending steps; rows with equal steps keep their order
unfoldable pub rows_by_steps : List Row → List Row
rows_by_steps [] = []
rows_by_steps (row ∷ rows) = inserted_by_steps row (rows_by_steps rows)

-- `sorted` are the rows sorted by descending steps; rows with equal steps keep their order
pub record AreSortedBySteps (rows sorted : List Row) : Type 0 where
  pub same_rows : IsPermutation rows sorted
  pub most_first : AllPairs (λ row later. later.steps ≤ row.steps) sorted
  pub stable : (steps : ℕ) → filter (λ row. row.steps == steps) sorted ≡ filter (λ row. row.steps == steps) rows

-- the greatest number of rows that `show` lists under "most steps"
abbrev pub max_rows_shown : ℕ
max_rows_shown = 10

-- the rows with the most steps, at most `max_rows_shown` of them, by descending steps
abbrev pub rows_with_most_steps : List Row → List Row
rows_with_most_steps rows = take max_rows_shown (rows_by_steps rows)

-- a line with the steps and the name of a row
unfoldable pub steps_line : Row → List ℕ
steps_line row = line (codes "  " ++ decimal row.steps ++ codes " " ++ row.name)

-- ---- the text

-- a heading and a line for each of the rows with the most steps
abbrev pub most_steps_text : List Row → List ℕ
most_steps_text rows = line (codes "most steps:") ++ flat_map steps_line (rows_with_most_steps rows)

-- what `show` prints about the rows of a report: the failures, the line of totals, and the rows with the most steps
unfoldable pub summary_text : JudgeView → List Row → List ℕ
summary_text judging rows =
    flat_map (failed_line judging) rows ++ totals_line judging rows ++ most_steps_text rows
