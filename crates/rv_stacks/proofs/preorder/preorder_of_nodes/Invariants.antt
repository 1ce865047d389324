use Rattle.rv_stacks.proofs.Flattened.{Conserves}
use Rattle.rv_stacks.proofs.preorder.preorder_of_nodes.Given as goal

abbrev pub invariant-turns : goal.invariant-turns
invariant-turns l = Conserves l.initial.remaining.items l.remaining.items l.builder
