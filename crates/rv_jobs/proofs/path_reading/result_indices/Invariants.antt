use Rattle.std.proofs.Common.{◌≡◌, ◌<◌, ℕ, length}
use Rattle.std.specs.Prelude.{slice_index_or}
use Rattle.rv_jobs.specs.declared.path_reading.PartialResultIndices.{PartialResultIndices}
use Rattle.rv_lists.specs.declared.job.Job.{Job}
use Rattle.rv_jobs.specs.Plans.{paths_of}
use Rattle.rv_jobs.specs.ResultIndices.{ArePartialResultIndices}
use Rattle.rv_jobs.proofs.path_reading.result_indices.Given as goal

abbrev pub invariant-loop-at : goal.invariant-loop-at
invariant-loop-at l = (length l.indices.items ≡ l.at)
    × ((i : ℕ) (d : Job) (e : PartialResultIndices) → i < l.at
    → ArePartialResultIndices (paths_of l.fn.results) (slice_index_or l.fn.jobs i d) (slice_index_or l.indices.items i e))
