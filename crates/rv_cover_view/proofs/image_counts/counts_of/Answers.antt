use Rattle.std.proofs.Common.{refl}
use Rattle.sha2.specs.Sha256.{sha256}
use Rattle.rv_count_tables.specs.Table.{increase_from}
use Rattle.rv_cover_view.specs.ImageCounts.{is_of_digest}
use Rattle.rv_cover_view.proofs.Found.{found_rises}
use Rattle.rv_cover_view.proofs.image_counts.counts_of.Goals as goal

pub returns-in-Some-clause-increasing : goal.returns-in-Some-clause-increasing
returns-in-Some-clause-increasing c =
    rw c.as_slice.ensures
    (found_rises (is_of_digest (sha256 c.args.bytes.now)) c.args.table.now.images c.in-Some.entry.now c.requires.images
    (rw c.in-Some.is at c.entry_of_image.ensures))

pub returns-in-None-clause-increasing : goal.returns-in-None-clause-increasing
unfolding increase_from
returns-in-None-clause-increasing c = refl
