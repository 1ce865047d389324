-- The intended jobs of a list: the jobs after some runs were accepted.
use Rattle.std.specs.Prelude.{List, [], ◌∷◌, Option, Some, None}
use Rattle.rv_rows.specs.declared_job.Job.{Job}
use Rattle.rv_rows.specs.declared_row.Row.{Row}
use Rattle.rv_accept.specs.Accepted.{accepted_job}
use Rattle.rv_accept.specs.Runs.{accepted_row}
use Rattle.rv_accept.specs.declared.runs.JobRun.{JobRun}

-- the job after its row was accepted, or unchanged if there is no row
abbrev pub intended_job : Job → Option Row → Job
intended_job job None = job
intended_job job (Some row) = accepted_job job row.ending row.console

-- the intended jobs: each accepted job expects the results of its run, and the other jobs are unchanged
unfoldable pub intended_jobs : List Job → List (Option JobRun) → List Job
intended_jobs [] runs = []
intended_jobs (job ∷ jobs) [] = job ∷ jobs
intended_jobs (job ∷ jobs) (run ∷ runs) = intended_job job (accepted_row run) ∷ intended_jobs jobs runs
