use Rattle.std.proofs.Common.{slice_index_or}
use Rattle.rv_cover_view.proofs.JobImages.{small_here}
use Rattle.rv_cover_view.proofs.job_images.image_at.Goals as goal

pub invariant_of-result : goal.invariant_of-result
invariant_of-result c =
    let job = slice_index_or c.args.plan.now.jobs c.args.index c.job-job.result.now in
    record {
      read = rw c.in-Some-2.is at c.in_ok-image.ensures.image;
      small = small_here c.args.plan.now.results job c.in-Some.bytes.now c.requires.small
          (rw c.in-Some.is at (c.image_bytes.ensures c.job-job.result.now));
    }
