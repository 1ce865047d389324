-- A later run of a job whose results were accepted, with its golden files.
use Rattle.std.specs.Prelude.{◌≡◌, Bool, true, false, IfSome, IsTrue, List}
use Rattle.rv_rows.specs.Jobs.{console_path}
use Rattle.rv_rows.specs.Plans.{result_or_unreadable}
use Rattle.rv_rows.specs.declared_answers.PathResult.{PathResult}
use Rattle.rv_rows.specs.declared_kept.Kept.TheVariants as kept
use Rattle.rv_rows.specs.declared_job.Job.{Job}
use Rattle.rv_rows.specs.Verdict.{did_run, has_expected_end, has_expected_exit, lines_of_signature}
use Rattle.rv_rows.specs.declared.outcome.Outcome.{Outcome}
use Rattle.rv_rows.specs.declared_row.Row.{Row}
use Rattle.rv_rows.specs.declared_row.Verdict.{Verdict}
use Rattle.rv_rows.specs.declared_row.Verdict.TheVariants as verdict

-- whether the verdict is `pass`, or `none` because the job has no expectations
abbrev pub is_pass_or_none : Verdict → Bool
is_pass_or_none verdict.Fail = false
is_pass_or_none _ = true

-- the outcome of the run that a row describes
abbrev pub outcome_of_row : Row → Outcome
outcome_of_row row = record {
  ending = row.ending;
  steps = row.steps;
  console = row.console;
  signature = row.signature;
}

-- a later run of the job reads the same image, if the job ran, and finds the results of its row in the golden files
pub record AreGoldenFilesUpToDate (earlier later : List PathResult) (job : Job) (row : Row) : Type 0 where
  pub image : IsTrue (did_run row.ending) → result_or_unreadable later job.image ≡ result_or_unreadable earlier job.image
  pub signature : IfSome job.expect_signature (λ path. result_or_unreadable later path ≡ kept.Content (lines_of_signature row.signature))
  pub console : IfSome (console_path job.expect_console) (λ path. result_or_unreadable later path ≡ kept.Content row.console)

-- the job ran and ended as it expects
pub record HasExpectedEnd (job : Job) (row : Row) : Type 0 where
  pub ran : IsTrue (did_run row.ending)
  pub exit : IsTrue (has_expected_exit job.expect_exit row.ending)
  pub end : IsTrue (has_expected_end job.expect_end row.ending)
