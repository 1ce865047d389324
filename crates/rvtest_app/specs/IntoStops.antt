-- Why a report cannot be updated by `--into`.
use Rattle.std.specs.Prelude.{◌≡◌, ◌⊎◌, ◌==◌, ◌++◌, ◌+◌, ℕ, false, List, IsSomeAnd, Option, Some, None, codes, length, slice_get, take}
use Rattle.std.specs.Fmt.{decimal}
use Rattle.std.specs.Str.{bytes_eq}
use Rattle.rv_files.specs.Files.{FileContents}
use Rattle.rvtest_cli.specs.declared.run.RunArgs.{RunArgs}
use Rattle.rv_command.specs.Stops.{IsReportReadStop, IsStop}
use Rattle.rv_command.specs.Texts.{IsReportAt}
use Rattle.rv_command.specs.declared.stop.Stop.{Stop}
use Rattle.rv_rows.specs.declared_job.Job.{Job}
use Rattle.rv_rows.specs.Saved.{row_names}
use Rattle.rv_rows.specs.declared_saved.Extent.{Extent}
use Rattle.rv_rows.specs.declared_saved.Extent.TheVariants as extent
use Rattle.rv_rows.specs.declared_saved.SavedReport.{SavedReport}
use Rattle.rv_job_text.specs.Printable.{printable_text}
use Rattle.rv_job_text.specs.TextWords.{count_text}
use Rattle.rvtest_app.specs.IntoReports.{job_names}
use Rattle.rvtest_app.specs.declared.whole_report.NotWholeReason.{NotWholeReason}
use Rattle.rvtest_app.specs.declared.whole_report.NotWholeReason.TheVariants as reason
use Rattle.rvtest_app.specs.declared.whole_report.NameMismatch.{NameMismatch}

-- ---- the messages

-- the end of each message about a report that `--into` rejects
abbrev pub expected_whole_report : List ℕ
expected_whole_report = codes ": --into expects a report of the whole list\n"

-- the message that the report at the path is a partial one, with `rows` rows of a list with `jobs` jobs
abbrev pub partial_report_message : List ℕ → ℕ → ℕ → List ℕ
partial_report_message path rows jobs = codes "rvtest: " ++ printable_text path ++ codes ": a partial report (" ++ decimal rows
    ++ codes " of " ++ count_text jobs (codes "job") ++ codes ")" ++ expected_whole_report

-- the message that the report at `path` has `rows` rows, but the list at `list_path` has `jobs` jobs
abbrev pub row_count_message : List ℕ → List ℕ → ℕ → ℕ → List ℕ
row_count_message path list_path rows jobs = codes "rvtest: " ++ printable_text path ++ codes ": has " ++ count_text rows (codes "row")
    ++ codes ", but " ++ printable_text list_path ++ codes " has " ++ count_text jobs (codes "job") ++ expected_whole_report

-- the message that job `number` is named `name_in_report` in the report at `path`, but `listed_name` in the list at `list_path`
abbrev pub name_mismatch_message : List ℕ → List ℕ → ℕ → List ℕ → List ℕ → List ℕ
name_mismatch_message path list_path number name_in_report listed_name = codes "rvtest: " ++ printable_text path ++ codes ": job "
    ++ decimal number ++ codes " is \"" ++ name_in_report ++ codes "\", but \"" ++ listed_name ++ codes "\" in "
    ++ printable_text list_path ++ expected_whole_report

-- the message that the report at `path` is not a report of all jobs of the list at `list_path`, with the reason
abbrev pub not_whole_message : List ℕ → List ℕ → NotWholeReason → List ℕ
not_whole_message path list_path (reason.Partial rows jobs) = partial_report_message path rows jobs
not_whole_message path list_path (reason.RowCount rows jobs) = row_count_message path list_path rows jobs
not_whole_message path list_path (reason.Name name) = name_mismatch_message path list_path name.number name.in_report.now name.listed.now

-- ---- the reason

-- the number of jobs in the list of a partial report; `None` for a whole report
abbrev pub jobs_of_partial_report : Extent → Option ℕ
jobs_of_partial_report extent.Whole = None
jobs_of_partial_report (extent.Selection jobs) = Some jobs
jobs_of_partial_report (extent.Shard shard) = Some shard.jobs

-- `mismatch` has the number, counted from 1, of the first name that differs between the two lists, and the name in each list
pub record IsFirstNameMismatch (report_names listed_names : List (List ℕ)) (mismatch : NameMismatch) : Type 0 where
  -- the index of the name
  pub index : ℕ
  pub number : mismatch.number ≡ index + 1
  pub name_in_report : slice_get report_names index ≡ Some mismatch.in_report.now
  pub listed_name : slice_get listed_names index ≡ Some mismatch.listed.now
  pub differ : bytes_eq mismatch.in_report.now mismatch.listed.now ≡ false
  pub before : take index report_names ≡ take index listed_names

-- why a report is not a report of all jobs of the list: it is partial, its number of rows differs from the number of jobs, or the name of a
-- row differs from the name of its job
abbrev pub IsNotWholeBecause : List Job → SavedReport → NotWholeReason → Type 0
IsNotWholeBecause jobs report (reason.Partial rows count) = (rows ≡ length report.rows)
    × (jobs_of_partial_report report.extent ≡ Some count)
IsNotWholeBecause jobs report (reason.RowCount rows count) = (report.extent ≡ extent.Whole)
    × ((rows ≡ length report.rows) × ((count ≡ length jobs) × ((rows == count) ≡ false)))
IsNotWholeBecause jobs report (reason.Name name) = (report.extent ≡ extent.Whole)
    × ((length report.rows ≡ length jobs) × IsFirstNameMismatch (row_names report.rows) (job_names jobs) name)

-- why a command stopped: the report at `path` could not be read, or it is not a report of all jobs of the list at `list_path`
abbrev pub IsNotWholeReportStop : Option FileContents → List ℕ → List ℕ → List Job → Stop → Type 0
IsNotWholeReportStop contents path list_path jobs stop = IsReportReadStop contents path stop
    ⊎ ((report : SavedReport) × (IsReportAt contents path report
    × ((reason : NotWholeReason) × (IsNotWholeBecause jobs report reason × IsStop 2 (not_whole_message path list_path reason) stop))))

-- why a run with `--into` stopped: the report at its path could not be read, or is not a report of all jobs of the list
abbrev pub IsIntoStop : Option FileContents → RunArgs → List Job → Stop → Type 0
IsIntoStop contents args jobs stop =
    IsSomeAnd args.into (λ path. IsNotWholeReportStop contents path.now args.list.now jobs stop)
