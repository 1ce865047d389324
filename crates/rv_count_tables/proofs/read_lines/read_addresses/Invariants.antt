-- The addresses so far are those of the first lines.
use Rattle.std.proofs.Common.{◌-◌, length}
use Rattle.rv_count_tables.proofs.ReadingLines.{AreSoFar}
use Rattle.rv_count_tables.proofs.read_lines.read_addresses.Given as goal

abbrev pub invariant-lines : goal.invariant-lines
invariant-lines l = AreSoFar l.text l.addresses.items l.lowest l.length

abbrev pub decreases-lines : goal.decreases-lines
decreases-lines l = length l.text - l.length
