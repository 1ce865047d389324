use Rattle.std.proofs.Common.{◌≡◌, take}
use Rattle.rv_counting.specs.JobTables.{jobs_at}
use Rattle.rv_cover_view.specs.JobImages.{images_of, images_of_files}
use Rattle.rv_cover_view.proofs.job_images.images_of_jobs.Given as goal

abbrev pub invariant-loop-index : goal.invariant-loop-index
invariant-loop-index l =
    images_of_files l.files.items ≡ images_of l.plan.results (jobs_at l.plan (take l.index-index l.indices))
