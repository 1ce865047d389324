-- Those of the last spots, the last first.
use Rattle.std.proofs.Common.{◌≡◌, ◌-◌, drop, length}
use Rattle.std.specs.Prelude.{reverse}
use Rattle.rv_call_tree.specs.Subtrees.{subtrees_from}
use Rattle.rv_call_tree.proofs.subtree.subtrees_of.Given as goal

abbrev pub invariant-loop-count : goal.invariant-loop-count
invariant-loop-count l =
    reverse l.subtrees.items ≡ subtrees_from (length l.nodes - l.count) (drop (length l.nodes - l.count) l.nodes)
