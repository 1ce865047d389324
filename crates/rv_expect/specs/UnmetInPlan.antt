-- The expectations that the run of a plan's job does not meet.
use Rattle.std.specs.Prelude.{List, Option, option_and_then, option_map, slice_get}
use Rattle.rv_rows.specs.declared_job.Job.{Job}
use Rattle.rv_rows.specs.Plans.{PlanView}
use Rattle.rv_rows.specs.declared_row.Row.{Row}
use Rattle.rv_rows.specs.Rows.{expected_console_bytes, signature_reference_bytes, row_of}
use Rattle.rv_expect.specs.Comparisons.{ComparisonView}
use Rattle.rv_expect.specs.declared.unmet.UnmetExpectation.{UnmetExpectation}
use Rattle.rv_expect.specs.Unmet.{unmet_expectations_of}

-- the row of the job that a job's `same_as` names, or `None` if it names none
abbrev pub row_of_same_as_job : PlanView → Job → Option Row
row_of_same_as_job plan job =
    option_map (row_of plan) (option_and_then (slice_get plan.jobs) job.same_as)

-- the row of a plan's job with the data that it is compared with: the contents of the job's files, and the row of the job that its
-- `same_as` names
abbrev pub comparison_in : PlanView → Job → Row → ComparisonView
comparison_in plan job row = record {
  job = job;
  row = row;
  console = expected_console_bytes plan.results job;
  reference = signature_reference_bytes plan.results job;
  other = row_of_same_as_job plan job;
}

-- the unmet expectations of this row of a plan's job
abbrev pub unmet_expectations_in : PlanView → Job → Row → List UnmetExpectation
unmet_expectations_in plan job row = unmet_expectations_of (comparison_in plan job row)
