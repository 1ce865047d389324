-- The rows of a plan: one per job, in list order.
use Rattle.std.specs.Prelude.{ℕ, List, Option, Some, None, map, option_and_then, option_map, Result}
use Rattle.std.specs.Prelude.{[], slice_get, slice_index_or}
use Rattle.std.specs.Result.{result_ok}
use Rattle.rv_elf.specs.declared.image.Image.{Image}
use Rattle.rv_elf.specs.Image.{image_of}
use Rattle.rv_machine.specs.declared_isa.Isa.{Isa}
use Rattle.rv_jobs.specs.declared.path_results.PathResult.{PathResult}
use Rattle.rv_jobs.specs.declared_job.Job.{Job}
use Rattle.rv_jobs.specs.declared.kept.Kept.{Kept}
use Rattle.rv_jobs.specs.declared.kept.Kept.TheVariants as kept
use Rattle.rv_jobs.specs.Jobs.{console_path, single_job}
use Rattle.rv_jobs.specs.Plans.{PlanView, result_or_unreadable}
use Rattle.rv_rows.specs.declared.outcome.Outcome.{Outcome}
use Rattle.rv_machine.specs.State.{State}
use Rattle.rv_report.specs.declared.row.Refusal.{Refusal}
use Rattle.rv_report.specs.declared.row.Row.{Row}
use Rattle.rv_report.specs.declared.row.Verdict.{Verdict}
use Rattle.rv_rows.specs.Outcome.{outcome_of, start_of}
use Rattle.rv_rows.specs.Verdict.{verdict_of}

-- the outcome of a job, given the results for the paths of a plan
abbrev pub outcome_in : List PathResult → Job → Outcome
outcome_in results job =
    outcome_of job (result_or_unreadable results job.image) (option_map (result_or_unreadable results) job.expect_signature)
    (option_map (result_or_unreadable results) (console_path job.expect_console))

-- the state in which the run of a job begins, or the refusal, given the results for the paths of a plan
abbrev pub start_state_in : List PathResult → Job → Result State Refusal
start_state_in results job =
    start_of job (result_or_unreadable results job.image) (option_map (result_or_unreadable results) job.expect_signature)
    (option_map (result_or_unreadable results) (console_path job.expect_console))

-- the bytes of a file; `None` if the job names no file, or it was not read
abbrev pub content_if_read : Option Kept → Option (List ℕ)
content_if_read (Some (kept.Content bytes)) = Some bytes
content_if_read _ = None

-- the image in the bytes of a file; `None` if the file was not read, or is not an image of this instruction set
abbrev pub image_if_read : Isa → Option (List ℕ) → Option Image
image_if_read isa None = None
image_if_read isa (Some file) = result_ok (image_of isa file)

-- the image of a job; `None` if its file was not read, or is not an image
abbrev pub image_in : List PathResult → Job → Option Image
image_in results job = image_if_read job.isa (content_if_read (Some (result_or_unreadable results job.image)))

-- the bytes of the file with a job's expected signature; `None` if the job names no file, or it was not read
abbrev pub signature_reference_bytes : List PathResult → Job → Option (List ℕ)
signature_reference_bytes results job = content_if_read (option_map (result_or_unreadable results) job.expect_signature)

-- the bytes of the file with a job's expected console text; `None` if the job names no file, or it was not read
abbrev pub expected_console_bytes : List PathResult → Job → Option (List ℕ)
expected_console_bytes results job =
    content_if_read (option_map (result_or_unreadable results) (console_path job.expect_console))

-- the outcome of the job that the `same_as` of this job names; `None` without `same_as`
abbrev pub same_as_outcome : PlanView → Job → Option Outcome
same_as_outcome plan job =
    option_map (outcome_in plan.results) (option_and_then (slice_get plan.jobs) job.same_as)

-- the row with this name, outcome and verdict
abbrev pub row_of_outcome : List ℕ → Outcome → Verdict → Row
row_of_outcome name outcome verdict = record {
  name = name;
  ending = outcome.ending;
  steps = outcome.steps;
  console = outcome.console;
  signature = outcome.signature;
  verdict = verdict;
}

-- the row of a job of a plan
unfoldable pub row_of : PlanView → Job → Row
row_of plan job =
    let outcome = outcome_in plan.results job in
    row_of_outcome job.name outcome
    (verdict_of job outcome (signature_reference_bytes plan.results job) (expected_console_bytes plan.results job)
    (same_as_outcome plan job))

-- the rows of all jobs of a plan, in list order
unfoldable pub rows_of : PlanView → List Row
rows_of plan = map (row_of plan) plan.jobs

-- the rows of the jobs at these indices of a plan
unfoldable pub rows_at : PlanView → List ℕ → List Row
rows_at plan indices =
    map (λ i. row_of plan (slice_index_or plan.jobs i (single_job [] 0 []))) indices
