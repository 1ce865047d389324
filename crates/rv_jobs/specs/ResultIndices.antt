-- The indices of the results for a job's paths.
use Rattle.std.specs.Prelude.{◌≡◌, ◌<◌, ℕ, List, length, Option, Some, None, IfSome, option_map}
use Rattle.std.specs.Prelude.{option_and_then, slice_index_or}
use Rattle.rv_lists.specs.declared.job.Job.{Job}
use Rattle.rv_jobs.specs.declared.path_reading.ResultIndices.{ResultIndices}
use Rattle.rv_jobs.specs.declared.path_reading.PartialResultIndices.{PartialResultIndices}
use Rattle.rv_lists.specs.Names.{index_in}
use Rattle.rv_lists.specs.Jobs.{console_path}

-- each path of the job is in `paths`, and `indices` has its index there
pub record AreResultIndices (paths : List (List ℕ)) (job : Job) (indices : ResultIndices) : Type 0 where
  pub image : index_in paths job.image ≡ Some indices.image
  pub reference :
      option_map (index_in paths) job.expect_signature ≡ option_map (λ k. Some k) indices.reference
  pub console :
      option_map (index_in paths) (console_path job.expect_console)
      ≡ option_map (λ k. Some k) indices.console

-- `recorded` has an entry for each job, which is empty or has the indices of the job's paths in `paths`
pub record AreRecorded (paths : List (List ℕ)) (jobs : List Job)
    (recorded : List (Option ResultIndices)) : Type 0 where
  pub many : length recorded ≡ length jobs
  pub each : (i : ℕ) → IfSome (slice_index_or recorded i None)
      (λ indices. (d : Job) → AreResultIndices paths (slice_index_or jobs i d) indices)

-- `indices` has, for each path of the job, its index in `paths`, or `None` if it is not in `paths`
pub record ArePartialResultIndices (paths : List (List ℕ)) (job : Job) (indices : PartialResultIndices) : Type 0 where
  pub image : index_in paths job.image ≡ indices.image
  pub reference : option_and_then (index_in paths) job.expect_signature ≡ indices.reference
  pub console : option_and_then (index_in paths) (console_path job.expect_console) ≡ indices.console

-- `entries` has, for each path of each job, its index in `paths`, or `None` if it is not in `paths`
pub record ArePartialResultIndicesOfJobs (paths : List (List ℕ)) (jobs : List Job) (entries : List PartialResultIndices) : Type 0 where
  pub many : length entries ≡ length jobs
  pub each : (i : ℕ) (d : Job) (e : PartialResultIndices) → i < length jobs
      → ArePartialResultIndices paths (slice_index_or jobs i d) (slice_index_or entries i e)
