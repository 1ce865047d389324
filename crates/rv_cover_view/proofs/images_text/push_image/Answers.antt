use Rattle.std.proofs.Common.{refl}
use Rattle.rv_cover_view.specs.ImagesText.{image_text}
use Rattle.rv_cover_view.proofs.JobImages.{on_ok}
use Rattle.rv_cover_view.proofs.images_text.push_image.Goals as goal

pub returns : goal.returns
returns c =
    on_ok c.push_image_cover.result _ _
    (λ put. (
      image_text c.args.csv c.in_ok-cover.cover,
      (
        (
          c.in_ok-cover.cover,
          (rw (c.as_bytes-path.ensures.value, c.counts_of-counts.ensures.counts) at c.in_ok-cover.ensures, refl),
        ),
        put,
      ),
    ))
    c.push_image_cover.ensures
