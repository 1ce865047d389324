-- Updating a report of a whole list with the rows of a run (`--into`).
use Rattle.std.specs.Prelude.{◌≡◌, ◌||◌, ℕ, Bool, List, [], ◌∷◌, IsSomeAnd, MatchOption, Option, Some, None, if◌then◌else◌, map, slice_set}
use Rattle.std.specs.Option.{option_or}
use Rattle.rv_files.specs.Files.{FileContents}
use Rattle.rvtest_cli.specs.declared.run.RunArgs.{RunArgs}
use Rattle.rv_command.specs.Texts.{IsReportAt, optional_text}
use Rattle.rv_rows.specs.declared_job.Job.{Job}
use Rattle.rv_rows.specs.Report.{report_text, row_text}
use Rattle.rv_rows.specs.Saved.{row_names}
use Rattle.rv_rows.specs.declared_row.Row.{Row}
use Rattle.rv_rows.specs.declared_saved.Extent.TheVariants as extent
use Rattle.rv_rows.specs.declared_saved.SavedReport.{SavedReport}
use Rattle.rv_rows.specs.declared_saved.Shard.{Shard}
use Rattle.rv_stream.specs.Streams.{joined_row_texts}
use Rattle.rvtest_app.specs.Outlets.{is_stdout_at}
use Rattle.rvtest_app.specs.RunOutput.{chosen_last_line, chosen_report_text}

-- ---- the report of a whole list

-- the names of the jobs, in order
abbrev pub job_names : List Job → List (List ℕ)
job_names jobs = map (λ (job : Job). job.name) jobs

-- the report has one row for each job of the list, in list order
pub record IsWholeReport (jobs : List Job) (report : SavedReport) : Type 0 where
  pub extent : report.extent ≡ extent.Whole
  pub named : row_names report.rows ≡ job_names jobs

-- the file at the path is a report of the whole list, with these rows
abbrev pub IsWholeReportAt : Option FileContents → List ℕ → List Job → List Row → Type 0
IsWholeReportAt contents path jobs rows = (report : SavedReport) × (IsReportAt contents path report
    × (IsWholeReport jobs report × (rows ≡ report.rows)))

-- `old_rows` are the rows of the report that `--into` names; `None` without `--into`
abbrev pub AreOldRows : Option FileContents → RunArgs → List Job → Option (List Row) → Type 0
AreOldRows contents args jobs old_rows = MatchOption args.into (old_rows ≡ None)
    (λ path. IsSomeAnd old_rows (IsWholeReportAt contents path.now jobs))

-- ---- the updated report

-- `old_rows`, where the rows at the given indices are replaced: the row at the first index by the first new row, and so on
abbrev pub merged_rows : List ℕ → List Row → List Row → List Row
merged_rows [] rows old_rows = old_rows
merged_rows (index ∷ indices) [] old_rows = old_rows
merged_rows (index ∷ indices) (row ∷ rows) old_rows = merged_rows indices rows (slice_set old_rows index row)

-- the text of a run's report: if there is an old report, its rows with those of the run replaced, else a report of the run's rows alone
abbrev pub run_report_text : Option (List Row) → ℕ → List ℕ → Option Shard → List Row → List ℕ
run_report_text (Some old_rows) jobs indices shard rows = report_text (merged_rows indices rows old_rows)
run_report_text None jobs indices shard rows = chosen_report_text jobs indices shard rows

-- what a report receives as soon as the job at index `index` finishes: its row, or nothing if rows are not written early
abbrev pub report_row_text : Bool → ℕ → Row → List ℕ
report_row_text is_streaming index row = if is_streaming then row_text index row else []

-- what a report receives while the jobs run: their rows, or nothing if the run updates an old report
abbrev pub streamed_rows : Option (List Row) → List ℕ → List Row → List ℕ
streamed_rows (Some old_rows) indices rows = []
streamed_rows None indices rows = joined_row_texts row_text indices rows

-- what a report receives after all jobs have finished: the whole report if the run updates an old one, else the last line
abbrev pub run_report_rest : Option (List Row) → ℕ → List ℕ → Option Shard → List Row → List ℕ
run_report_rest (Some old_rows) jobs indices shard rows = report_text (merged_rows indices rows old_rows)
run_report_rest None jobs indices shard rows = chosen_last_line jobs indices shard rows

-- the path of the report to write: the path of `--into`, or else the path of `--report`; `None` without these options
abbrev pub run_report_path : RunArgs → Option (List ℕ)
run_report_path args = option_or (optional_text args.into) (optional_text args.report)

-- whether the report, the JUnit XML or the table of counts goes to standard output
abbrev pub uses_run_stdout : RunArgs → Bool
uses_run_stdout args = (is_stdout_at (run_report_path args) || is_stdout_at (optional_text args.junit))
    || is_stdout_at (optional_text args.counts)
