use Rattle.std.proofs.Common.{◌∙◌, Some, ap, slice_index_or}
use Rattle.rv_jobs.specs.declared_job.Job.{Job}
use Rattle.rv_jobs.specs.declared.kept.Kept.{Kept}
use Rattle.rv_jobs.specs.Plans.{result_or_unreadable}
use Rattle.rv_rows.specs.Rows.{content_if_read, image_if_read}
use Rattle.rv_rows.proofs.Loadables.{image_is_read}
use Rattle.rv_rows.proofs.plan_rows.machine_at_reusing.Goals as goal

pub machine_of_image-requires-clause-image : goal.machine_of_image-requires-clause-image
machine_of_image-requires-clause-image c =
    let job = c.job.result.now in
    let listed = slice_index_or c.args.plan.now.jobs c.args.i job in
    image_is_read job.isa c.image.result.now _ _ c.in-Ok.file.now c.args.image.now c.in-Ok.ensures
    (ap (λ (kept : Kept). image_if_read job.isa (content_if_read (Some kept))) (c.image.ensures job)
    ∙ ap (λ (one : Job). image_if_read one.isa (content_if_read (Some (result_or_unreadable c.args.plan.now.results listed.image))))
    c.job.ensures.value ∙ c.requires.image job)
