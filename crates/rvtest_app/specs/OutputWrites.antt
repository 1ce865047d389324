-- What a command writes: the text that it shows, its report and its JUnit XML.
use Rattle.std.specs.Prelude.{◌≡◌, ◌||◌, ◌++◌, ℕ, Bool, true, false, List, Option, Some}
use Rattle.std.specs.Io.KnownBytes.{Appends}
use Rattle.rv_expect.specs.Judgement.{judge_view}
use Rattle.rv_junit.specs.Junit.{junit_text}
use Rattle.rv_rows.specs.declared_row.Row.{Row}
use Rattle.rv_stream.specs.Streams.{row_texts}
use Rattle.rvtest_app.specs.declared.file_texts.FileTexts.{FileTexts}
use Rattle.rvtest_app.specs.Outlets.{AreFilesCommitted, file_at, is_stdout_at, stdout_at}
use Rattle.rvtest_app.specs.ReportTexts.{report_rows}
use Rattle.rvtest_app.specs.CommandOutputs.{IsOnlyStandardOutput, IsOnlyErrorOutput, CommandOutputs}

-- the text was written to standard error if the Bool is true, and otherwise to standard output
abbrev pub IsWrittenToErrorsIf : Bool → List ℕ → CommandOutputs → CommandOutputs → Type 0
IsWrittenToErrorsIf true text before after = IsOnlyErrorOutput text before after
IsWrittenToErrorsIf false text before after = IsOnlyStandardOutput text before after

-- the JUnit XML of the rows of a report; `line` gives the lines about a row
abbrev pub junit_of_report : {T : Type 0} → (T → ℕ → Row → List ℕ) → FileTexts T → List ℕ
junit_of_report line texts = junit_text texts.suite.name.now (judge_view texts.suite.judge)
    (row_texts (line texts.reporter.now) texts.indices.now (report_rows texts.report)) (report_rows texts.report)

-- the text `shown` was written to standard error if `to_stderr` is true, else to standard output; then the JUnit XML and the report were
-- written to their paths
pub record IsOutputWrittenTo (to_stderr : Bool) (report_path junit_path : Option (List ℕ)) (shown report junit : List ℕ)
    (before after : CommandOutputs) : Type 0 where
  pub between : CommandOutputs
  pub shown_written : IsWrittenToErrorsIf to_stderr shown before between
  pub out : Appends between.out after.out (stdout_at junit_path junit ++ stdout_at report_path report)
  pub errors_unchanged : (after.errors ≡ between.errors) × (after.failures ≡ between.failures)
  pub committed : AreFilesCommitted between.committed after.committed (Some (file_at junit_path junit ++ file_at report_path report))

-- the text `shown` was written to standard error if one of the paths is `-`, else to standard output; then the JUnit XML and the report
-- were written to their paths
abbrev pub IsOutputWritten : Option (List ℕ) → Option (List ℕ) → List ℕ → List ℕ → List ℕ → CommandOutputs → CommandOutputs → Type 0
IsOutputWritten report_path junit_path shown report junit before after =
    IsOutputWrittenTo (is_stdout_at report_path || is_stdout_at junit_path) report_path junit_path shown report junit before after
