use Rattle.std.proofs.Common.{◌∙◌, [], ap, get_or, sym}
use Rattle.std.proofs.lemmas.List.{get_or_default}
use Rattle.rv_counting.specs.Jobs.{single_job}
use Rattle.rv_counting.specs.Trace.{job_at}
use Rattle.rv_cover_view.specs.JobImages.{with_image_of}
use Rattle.rv_cover_view.proofs.JobImages.{images_more}
use Rattle.rv_cover_view.proofs.job_images.images_of_jobs.Goals as goal

pub loop-index-preserved : goal.loop-index-preserved
loop-index-preserved c =
    let plan = c.args.plan.now in
    let indices = c.args.indices.now in
    let i = c.loop-index.index-index in
    let index = get_or indices i 0 in
    c.in_ok-push_image_at.ensures (single_job [] 0 [])
    ∙ ap (λ images. with_image_of plan.results images (job_at plan index (single_job [] 0 []))) c.loop-index.invariant
    ∙ sym (images_more plan indices i index c.loop-index-test.true (get_or_default indices i 0 index c.loop-index-test.true))
