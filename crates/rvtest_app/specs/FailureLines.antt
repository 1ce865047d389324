-- What is reported about jobs when only failures are shown.
use Rattle.std.specs.Prelude.{ℕ, Bool, false, List, is_some}
use Rattle.rv_job_text.specs.RowReporter.{RowReporter, row_lines_at}
use Rattle.rv_job_text.specs.declared.verbosity.Verbosity.{Verbosity}
use Rattle.rv_job_text.specs.declared.verbosity.Verbosity.TheVariants.{All, Failures, Quiet}
use Rattle.rv_rows.specs.declared_row.Row.{Row}
use Rattle.rvtest_cli.specs.declared.run.RunArgs.{RunArgs}

-- the lines about a row of the job at the given index if only failures are shown: empty if the row is not a failure
abbrev pub failure_lines : RowReporter → ℕ → Row → List ℕ
failure_lines reporter = row_lines_at (record reporter { verbosity = Failures })

-- whether the texts of failures are kept for JUnit XML: JUnit XML is requested, and failed jobs are shown
abbrev pub stores_failure_texts : RunArgs → Verbosity → Bool
stores_failure_texts args Quiet = false
stores_failure_texts args Failures = is_some args.junit
stores_failure_texts args All = is_some args.junit
