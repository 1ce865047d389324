use Rattle.std.proofs.Common.{◌≡◌, take}
use Rattle.rvtest_app.specs.CountSums.{executed_in_images, capped_number}
use Rattle.rvtest_app.proofs.counts_note.executed_in_images.Given as goal

abbrev pub invariant-loop-image : goal.invariant-loop-image
invariant-loop-image l = l.total ≡ capped_number (executed_in_images (take l.image-index l.images))
