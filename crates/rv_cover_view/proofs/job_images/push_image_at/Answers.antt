use Rattle.std.proofs.Common.{◌∙◌}
use Rattle.rv_cover_view.specs.JobImages.{images_of_files}
use Rattle.rv_counting.specs.Trace.{job_at}
use Rattle.rv_cover_view.proofs.JobImages.{found_here, on_ok}
use Rattle.rv_cover_view.proofs.job_images.push_image_at.Goals as goal

pub returns-in-Some : goal.returns-in-Some
returns-in-Some c =
    on_ok c.push_image.result _ _
    (λ same d. same ∙ found_here c.args.plan.now.answers (images_of_files c.args.files.now.items) (job_at c.args.plan.now c.args.place d) _ (rw c.in-Some.is at (c.in_ok-found.ensures d)))
    c.push_image.ensures

pub returns-in-None : goal.returns-in-None
returns-in-None c = λ d. found_here c.args.plan.now.answers (images_of_files c.args.files.now.items) (job_at c.args.plan.now c.args.place d) _ (rw c.in-None.is at (c.in_ok-found.ensures d))
