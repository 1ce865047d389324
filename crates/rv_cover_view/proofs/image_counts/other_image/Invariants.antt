use Rattle.std.proofs.Common.{◌≡◌, find, None, take}
use Rattle.rv_cover_view.proofs.OtherImages.{is_other}
use Rattle.rv_cover_view.proofs.image_counts.other_image.Given as goal

abbrev pub invariant-loop-image : goal.invariant-loop-image
invariant-loop-image l = find (is_other l.table) (take l.image-index l.images) ≡ None
