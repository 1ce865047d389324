-- What a run of chosen jobs shows, its report and its status.
use Rattle.std.specs.Prelude.{ℕ, List, ◌++◌, ◌+◌, ◌-◌, ◌==◌, if◌then◌else◌, length, map}
use Rattle.std.specs.Prelude.{Option, Some, None}
use Rattle.std.specs.List.{list_any}
use Rattle.rv_rows.specs.Plans.{PlanView}
use Rattle.rv_job_text.specs.TotalsLine.{run_totals_line}
use Rattle.rv_expect.specs.Judgement.{JudgeView, fails}
use Rattle.rv_rows.specs.declared_saved.Extent.{Extent}
use Rattle.rv_rows.specs.declared_saved.Extent.TheVariants as extent
use Rattle.rv_rows.specs.declared_saved.Shard.{Shard}
use Rattle.rv_rows.specs.Saved.{extent_line, saved_text}
use Rattle.rv_rows.specs.declared_row.Row.{Row}
use Rattle.rv_rows.specs.Report.{report_text}
use Rattle.rv_stream.specs.Streams.{joined_row_texts}

-- what a run shows: the lines about each row, then the line of totals, which also counts the jobs without a row
abbrev pub run_output_text : (ℕ → Row → List ℕ) → JudgeView → PlanView → List ℕ → List Row → List ℕ
run_output_text line judging plan indices rows =
    joined_row_texts line indices rows ++ run_totals_line judging plan indices rows (length indices - length rows)

-- the exit status for these rows: 1 if one of them is a failure, and otherwise 0
abbrev pub rows_status : JudgeView → List Row → ℕ
rows_status judging rows = if list_any (fails judging) rows then 1 else 0

-- the numbers of the jobs at these indices, counted from 1
abbrev pub job_numbers : List ℕ → List ℕ
job_numbers indices = map (λ index. index + 1) indices

-- a report of these rows of the jobs at these indices; `report_extent` says whether they are the jobs of a shard, all jobs or chosen jobs
-- of a list
abbrev pub part_text : Extent → List ℕ → List Row → List ℕ
part_text report_extent indices rows = saved_text (record {
  extent = report_extent;
  numbers = job_numbers indices;
  rows = rows;
})

-- a report of these rows: of a shard if one is given, else of a whole list if there are as many indices as the list has jobs (`jobs`), else
-- of chosen jobs
abbrev pub chosen_report_text : ℕ → List ℕ → Option Shard → List Row → List ℕ
chosen_report_text jobs indices (Some shard) rows = part_text (extent.Shard shard) indices rows
chosen_report_text jobs indices None rows =
    if length indices == jobs then report_text rows
    else part_text (extent.Selection jobs) indices rows

-- the extent of a report: a shard if one is given, else the whole list if there are as many indices as the list has jobs (`jobs`), else
-- chosen jobs
abbrev pub chosen_extent : ℕ → List ℕ → Option Shard → Extent
chosen_extent jobs indices (Some shard) = extent.Shard shard
chosen_extent jobs indices None = if length indices == jobs then extent.Whole else extent.Selection jobs

-- the last line of the report `chosen_report_text`
abbrev pub chosen_last_line : ℕ → List ℕ → Option Shard → List Row → List ℕ
chosen_last_line jobs indices shard rows = extent_line (chosen_extent jobs indices shard) (length rows)
