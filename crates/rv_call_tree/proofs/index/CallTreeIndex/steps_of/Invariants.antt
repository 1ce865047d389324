-- The other subtrees of the function tell the rest.
use Rattle.std.proofs.Common.{◌≡◌, ◌+◌, [], drop}
use Rattle.std.specs.List.{sum_by}
use Rattle.rv_call_tree.specs.Profiles.{calls_of_function, inclusive_steps_after}
use Rattle.rv_call_tree.specs.Subtrees.{subtrees_of_function}
use Rattle.rv_call_tree.specs.Trees.{own_steps_of}
use Rattle.rv_call_tree.proofs.Profiled.{inclusive_from}
use Rattle.rv_call_tree.proofs.index.CallTreeIndex.steps_of.Given as goal

abbrev pub invariant-loop-subtree : goal.invariant-loop-subtree
invariant-loop-subtree l = record {
  own : l.found.own + sum_by (λ s. s.own) (drop l.subtree-index (subtrees_of_function l.function l.self.nodes.now))
      ≡ own_steps_of l.function l.self.nodes.now;
  inclusive : l.found.inclusive + inclusive_from l.end (drop l.subtree-index (subtrees_of_function l.function l.self.nodes.now))
      ≡ inclusive_steps_after l.function [] l.self.nodes.now;
  calls : l.found.calls + sum_by (λ s. s.calls) (drop l.subtree-index (subtrees_of_function l.function l.self.nodes.now))
      ≡ calls_of_function l.function l.self.nodes.now;
}
