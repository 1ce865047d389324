use Rattle.rv_cover_view.proofs.JobImages.{added_new, added_there}
use Rattle.rv_cover_view.proofs.job_images.push_image.Goals as goal

pub returns-then-has_bytes : goal.returns-then-has_bytes
returns-then-has_bytes c = added_there c.args.files.now.items c.as_slice.result.now c.args.file _ c.as_slice.ensures.value c.has_bytes.ensures c.if-has_bytes.true

pub returns : goal.returns
returns c = added_new c.args.files.now.items c.as_slice.result.now _ c.args.file _ c.as_slice.ensures.value c.has_bytes.ensures c.if-has_bytes.false
    c.in_ok-push.ensures.items
