-- What `show` prints for a report.
use Rattle.std.specs.Prelude.{◌≡◌, ◌⊎◌, ℕ, List, Option, None, Some}
use Rattle.rv_files.specs.Files.{FileContents}
use Rattle.rvtest_cli.specs.declared.show.ShowArgs.{ShowArgs}
use Rattle.rv_command.specs.Messages.{truncation_note}
use Rattle.rv_command.specs.Texts.{IsReportReadAt, optional_text}
use Rattle.rv_files.specs.CommittedFiles.{CommittedFile}
use Rattle.rv_rows.specs.Report.{report_text}
use Rattle.rv_rows.specs.declared_partial.PartialReport.{PartialReport}
use Rattle.rv_rows.specs.declared_row.Row.{Row}
use Rattle.rvtest_app.specs.Commands.{report_judging}
use Rattle.rvtest_app.specs.Outlets.{AreFilesCommitted, file_at}
use Rattle.rvtest_app.specs.OutputWrites.{IsOutputWritten}
use Rattle.rvtest_app.specs.ReportSummary.{summary_text}
use Rattle.rvtest_app.specs.RunOutput.{rows_status}
use Rattle.rvtest_app.specs.JunitTexts.{failures_junit, suite_name}
use Rattle.rvtest_app.specs.CommandOutputs.{IsOnlyErrorOutput, CommandOutputs}

-- the JUnit XML of the rows of a report
abbrev pub shown_junit : ShowArgs → List Row → List ℕ
shown_junit args rows =
    failures_junit (suite_name (optional_text args.suite) args.report.now) (report_judging args.lenient) rows

-- `show` wrote the note about a truncated report to standard error, and then the summary and the JUnit XML of the report
pub record IsShowWritten (contents : Option FileContents) (args : ShowArgs) (status : ℕ) (before after : CommandOutputs)
    : Type 0 where
  pub partial_report : PartialReport
  pub read : IsReportReadAt contents args.partial args.report.now partial_report
  pub between : CommandOutputs
  pub note_reported : IsOnlyErrorOutput (truncation_note args.report.now partial_report) before between
  pub exit_status : status ≡ rows_status (report_judging args.lenient) partial_report.report.rows
  pub written : IsOutputWritten None (optional_text args.junit) (summary_text (report_judging args.lenient) partial_report.report.rows)
      (report_text partial_report.report.rows) (shown_junit args partial_report.report.rows)
      between after

-- `show` committed the JUnit XML of the report at the path in the arguments, if it is requested
pub record IsShowJunitCommitted (contents : Option FileContents) (args : ShowArgs) (before after : Option (List CommittedFile)) : Type 0 where
  pub partial_report : PartialReport
  pub read : IsReportReadAt contents args.partial args.report.now partial_report
  pub committed : AreFilesCommitted before after (Some (file_at (optional_text args.junit) (shown_junit args partial_report.report.rows)))

-- after an error, `show` has committed no file, or only the JUnit XML
abbrev pub IsAbortedShowAt : Option FileContents → ShowArgs → Option (List CommittedFile) → Option (List CommittedFile) → Type 0
IsAbortedShowAt contents args before after = (after ≡ before) ⊎ IsShowJunitCommitted contents args before after
