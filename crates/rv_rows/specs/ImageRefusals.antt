-- Why a job is refused because of its image, whatever its other files.
use Rattle.std.specs.Prelude.{List, Option, None}
use Rattle.rv_jobs.specs.declared.path_results.PathResult.{PathResult}
use Rattle.rv_jobs.specs.declared_job.Job.{Job}
use Rattle.rv_jobs.specs.Plans.{result_or_unreadable}
use Rattle.rv_report.specs.declared.row.Refusal.{Refusal}
use Rattle.rv_rows.specs.Outcome.{outcome_of, refusal_in}

-- the reason why a job is refused because of its image, given the results for paths; `None` if its image is usable, whatever its other
-- files are
abbrev pub image_refusal_in : List PathResult → Job → Option Refusal
image_refusal_in results job = refusal_in (outcome_of job (result_or_unreadable results job.image) None None).ending
