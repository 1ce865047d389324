use Rattle.std.proofs.Common.{◌≡◌, ◌++◌, List, ℕ, take}
use Rattle.rv_cover_view.specs.ImagesText.{AreImageCoverTexts, header_text}
use Rattle.rv_cover_view.specs.JobImages.{images_of_files}
use Rattle.rv_cover_view.proofs.images_text.cover_text.Given as goal

abbrev pub invariant-loop-image : goal.invariant-loop-image
invariant-loop-image l = (lines : List ℕ) × (AreImageCoverTexts l.csv l.table (images_of_files (take l.image-index l.images)) lines
    × (l.text.items ≡ header_text l.csv ++ lines))
