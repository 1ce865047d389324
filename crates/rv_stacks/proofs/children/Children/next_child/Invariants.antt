use Rattle.std.proofs.Common.{IfSome}
use Rattle.rv_stacks.specs.Walks.{IsNextChild}
use Rattle.rv_stacks.proofs.children.Children.next_child.Given as goal

abbrev pub invariant-loop : goal.invariant-loop
invariant-loop l = IfSome l.next (λ number. IsNextChild l.parent l.from number l.nodes)
