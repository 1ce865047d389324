-- Plans with the same jobs, one of which may have read fewer files.
use Rattle.std.specs.Prelude.{◌≡◌, List, option_map}
use Rattle.rv_jobs.specs.declared.path_results.PathResult.{PathResult}
use Rattle.rv_jobs.specs.declared_job.Job.{Job}
use Rattle.rv_jobs.specs.Jobs.{console_path}
use Rattle.rv_jobs.specs.Plans.{PlanView, result_or_unreadable}

-- the plan of these jobs with these results for paths
abbrev pub plan_of_jobs : List Job → List PathResult → PlanView
plan_of_jobs jobs results = record { jobs = jobs; results = results }

-- both lists of results have equal results for each path that the job names
pub record HaveSameResults (results other_results : List PathResult) (job : Job) : Type 0 where
  pub image : result_or_unreadable results job.image ≡ result_or_unreadable other_results job.image
  pub reference :
      option_map (result_or_unreadable results) job.expect_signature
      ≡ option_map (result_or_unreadable other_results) job.expect_signature
  pub console :
      option_map (result_or_unreadable results) (console_path job.expect_console)
      ≡ option_map (result_or_unreadable other_results) (console_path job.expect_console)
