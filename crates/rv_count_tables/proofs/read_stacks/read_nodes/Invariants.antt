-- The spots so far are those of the first lines, and the last one is of these functions.
use Rattle.std.proofs.Common.{◌-◌, length}
use Rattle.rv_count_tables.proofs.ReadingStacks.{SpotsSoFar}
use Rattle.rv_count_tables.proofs.read_stacks.read_nodes.Given as goal

abbrev pub invariant-lines : goal.invariant-lines
invariant-lines l = SpotsSoFar l.text l.nodes.items l.names l.path.items l.length

abbrev pub decreases-lines : goal.decreases-lines
decreases-lines l = length l.text - l.length
