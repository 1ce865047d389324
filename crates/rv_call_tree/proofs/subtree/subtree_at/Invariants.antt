-- From child to child.
use Rattle.std.proofs.Common.{◌-◌, length}
use Rattle.rv_call_tree.proofs.Descended.{Descended}
use Rattle.rv_call_tree.proofs.subtree.subtree_at.Given as goal

abbrev pub invariant-loop-end : goal.invariant-loop-end
invariant-loop-end l = Descended l.nodes l.index l.node l.end l.inclusive

abbrev pub decreases-loop-end : goal.decreases-loop-end
decreases-loop-end l = length l.nodes - l.end
