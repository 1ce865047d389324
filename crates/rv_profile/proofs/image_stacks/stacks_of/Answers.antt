use Rattle.sha2.specs.Sha256.{sha256}
use Rattle.rv_count_tables.specs.Table.{IsValidImage}
use Rattle.rv_cover_view.specs.ImageCounts.{is_of_digest}
use Rattle.rv_profile.proofs.Found.{found_is}
use Rattle.rv_profile.proofs.image_stacks.stacks_of.Goals as goal

pub stacks_of_image-requires : goal.stacks_of_image-requires
stacks_of_image-requires c =
    found_is IsValidImage (is_of_digest (sha256 c.args.bytes.now)) c.args.table.now.images c.in-Some.entry.now c.requires.images
    (rw c.in-Some.is at c.entry_of_image.ensures)
