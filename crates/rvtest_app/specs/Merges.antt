-- What `merge` reads and writes.
use Rattle.std.specs.Prelude.{◌≡◌, ◌⊎◌, ℕ, List, [], ◌∷◌, Option, Some, None, codes, if◌then◌else◌, unwrap_or, ⊤}
use Rattle.std.specs.Borrow.{Bor}
use Rattle.rv_files.specs.Files.{FileContents}
use Rattle.rvtest_cli.specs.declared.merge.MergeArgs.{MergeArgs}
use Rattle.rv_command.specs.Texts.{IsTextAt, optional_text}
use Rattle.rv_job_text.specs.TotalsLine.{totals_line}
use Rattle.rv_merge.specs.Parts.{AreParts}
use Rattle.rv_rows.specs.Report.{report_text}
use Rattle.rv_rows.specs.declared_row.Row.{Row}
use Rattle.rvtest_app.specs.Commands.{report_judging}
use Rattle.rv_files.specs.CommittedFiles.{CommittedFile}
use Rattle.rvtest_app.specs.Outlets.{AreFilesCommitted, file_at, is_stdout}
use Rattle.rvtest_app.specs.OutputWrites.{IsOutputWritten}
use Rattle.rvtest_app.specs.RunOutput.{rows_status}
use Rattle.rvtest_app.specs.JunitTexts.{failures_junit, suite_name}
use Rattle.rvtest_app.specs.CommandOutputs.{CommandOutputs}

-- the texts are the contents of the files at the paths, in order
abbrev pub AreTextsAt : Option FileContents → List (Bor (List ℕ)) → List (List ℕ) → Type 0
AreTextsAt contents [] [] = ⊤
AreTextsAt contents (path ∷ paths) (text ∷ texts) = IsTextAt contents path.now text × AreTextsAt contents paths texts
AreTextsAt contents _ _ = ⊥

-- the path for the merged report: the path of `--report`, or else `-` (standard output), or `None` if the JUnit XML goes to standard output
-- instead
abbrev pub merged_report_path : Option (List ℕ) → Option (List ℕ) → Option (List ℕ)
merged_report_path (Some path) junit = Some path
merged_report_path None None = Some (codes "-")
merged_report_path None (Some junit) = if is_stdout junit then None else Some (codes "-")

-- the name of the JUnit suite: the requested name, or else a name derived from the path of the report, or `merged` without `--report`
abbrev pub merged_suite : Option (List ℕ) → Option (List ℕ) → List ℕ
merged_suite suite (Some path) = suite_name suite path
merged_suite suite None = unwrap_or suite (codes "merged")

-- the JUnit XML of the merged rows
abbrev pub merged_junit : MergeArgs → List Row → List ℕ
merged_junit args rows = failures_junit (merged_suite (optional_text args.suite) (optional_text args.report))
    (report_judging args.lenient) rows

-- `merge` read the reports at the paths in the arguments, and wrote the line of totals, the merged report and the JUnit XML
pub record IsMergedAt (contents : Option FileContents) (args : MergeArgs) (status : ℕ) (before after : CommandOutputs)
    : Type 0 where
  pub texts : List (List ℕ)
  pub read : AreTextsAt contents args.parts.items texts
  pub rows : List Row
  pub parts : AreParts rows texts
  pub exit_status : status ≡ rows_status (report_judging args.lenient) rows
  pub written : IsOutputWritten (merged_report_path (optional_text args.report) (optional_text args.junit))
      (optional_text args.junit) (totals_line (report_judging args.lenient) rows) (report_text rows)
      (merged_junit args rows) before after

-- of the files that `merge` writes, only the JUnit XML was committed
pub record IsMergedJunitAlone (contents : Option FileContents) (args : MergeArgs) (before after : Option (List CommittedFile))
    : Type 0 where
  pub texts : List (List ℕ)
  pub read : AreTextsAt contents args.parts.items texts
  pub rows : List Row
  pub parts : AreParts rows texts
  pub committed : AreFilesCommitted before after (Some (file_at (optional_text args.junit) (merged_junit args rows)))

-- after an error, `merge` has committed no file, or only the JUnit XML
abbrev pub IsAbortedMergeAt : Option FileContents → MergeArgs → Option (List CommittedFile) → Option (List CommittedFile) → Type 0
IsAbortedMergeAt contents args before after = (after ≡ before) ⊎ IsMergedJunitAlone contents args before after
