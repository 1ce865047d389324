-- The lists and plans that a request can lead to, depending on what the store contains.
use Rattle.std.specs.Prelude.{◌≡◌, ℕ, List, Option, Ok, Err}
use Rattle.rv_fleet.specs.declared_row.Row.{Row}
use Rattle.rv_fleet.specs.Rows.{rows_of}
use Rattle.rv_fleet.specs.declared_lists_error.JobError.{JobError}
use Rattle.rv_fleet.specs.declared_job.Job.{Job}
use Rattle.rv_fleet.specs.declared_kept.Kept.TheVariants.{Content}
use Rattle.rv_fleet.specs.JobList.{job_list_of}
use Rattle.rv_fleet.specs.Plans.{AgreeWithContents, PlanView, after_increments, paths_of, paths_used, unreadable_count}
use Rattle.rv_files.specs.Files.{FileContents}
use Rattle.rv_fleet.specs.Kept.{AgreesWithContents}
use Rattle.rvfleet_app.specs.declared.error.ListError.{ListError}
use Rattle.rvfleet_app.specs.declared.error.ListError.TheVariants.{Failed, Invalid}

-- the contents of a store, if they are known, and its count of unreadable files before and after the run
pub record Stored : Type 0 where
  pub contents : Option FileContents
  pub before : ℕ
  pub after : ℕ

-- a store with these contents, if they are known, and this count of unreadable files before and after the run
abbrev pub stored_contents : Option FileContents → ℕ → ℕ → Stored
stored_contents contents before after = record { contents = contents; before = before; after = after }

-- the plan has the jobs of `list` and, for each of their paths, a result that the store can return; each unreadable file was counted
pub record IsPossiblePlan (store : Stored) (list : List Job) (plan : PlanView) : Type 0 where
  pub jobs : plan.jobs ≡ list
  pub paths : paths_of plan.results ≡ paths_used list
  pub results_agree : AgreeWithContents store.contents plan.results
  pub faults : store.after ≡ after_increments store.before (unreadable_count plan.results)

-- `rows` are the rows of a plan of these jobs, with results for their paths that the store can return
abbrev pub AreJobRows : Stored → List Job → List Row → Type 0
AreJobRows store jobs rows = (plan : PlanView) × (IsPossiblePlan store jobs plan × (rows ≡ rows_of plan))

-- `jobs` are the jobs of a list that the store can have at the path
abbrev pub IsPossibleList : Option FileContents → List ℕ → List Job → Type 0
IsPossibleList contents path jobs =
    (list : List ℕ) × (AgreesWithContents contents path (Content list) × (job_list_of list ≡ Ok jobs))

-- the store can have an invalid list with this error at the path
abbrev pub IsPossibleListError : Option FileContents → List ℕ → JobError → Type 0
IsPossibleListError contents path error =
    (list : List ℕ) × (AgreesWithContents contents path (Content list) × (job_list_of list ≡ Err error))

-- if reading a list ended because the list is invalid, the store can have a list with this error at the path
abbrev pub IsListFault : Option FileContents → List ℕ → ListError → Type 0
IsListFault contents path (Invalid error) = IsPossibleListError contents path error
IsListFault contents path (Failed failure) = Unit {0}
