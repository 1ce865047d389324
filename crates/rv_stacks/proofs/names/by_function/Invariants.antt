-- The spots so far are copied.
use Rattle.std.proofs.Common.{◌≡◌, take}
use Rattle.rv_stacks.proofs.names.by_function.Given as goal

abbrev pub invariant-loop-node : goal.invariant-loop-node
invariant-loop-node l = l.sorted.items ≡ take l.node-index l.nodes
