-- The images so far are those of the first lines.
use Rattle.std.proofs.Common.{◌-◌, length}
use Rattle.rv_count_tables.proofs.ReadingLines.{ImagesSoFar}
use Rattle.rv_count_tables.proofs.read_lines.read_images.Given as goal

abbrev pub invariant-images : goal.invariant-images
invariant-images l = ImagesSoFar l.text l.images.items l.length

abbrev pub decreases-images : goal.decreases-images
decreases-images l = length l.text - l.length
