-- The sorted subtrees are those of each function.
use Rattle.std.proofs.Common.{◌≡◌, ◌∙◌, ap, rules}
use Rattle.std.proofs.lemmas.Fn.{always_returns_same}
use Rattle.std.proofs.lemmas.List.Sorted.{IsNonDecreasingBy-from_sort_by_key}
use Rattle.rv_call_tree.specs.Subtrees.{with_root_function}
use Rattle.rv_call_tree.proofs.ByFunction.{each_stays, key_of}
use Rattle.rv_call_tree.proofs.index.CallTreeIndex.new.Goals as goal

pub invariant_of-result : goal.invariant_of-result
invariant_of-result c =
    let keys = always_returns_same _ (λ a r. r ≡ key_of a.0.now) _ (λ a r f' k. search rules) in
    record {
      tree = c.requires.tree;
      steps_fit = c.requires.steps;
      calls_fit = c.requires.calls;
      rising = IsNonDecreasingBy-from_sort_by_key key_of _ c.in_ok-sort_by_key.ensures.sorted (λ a r q k. search rules);
      each = λ f. each_stays _ _ (c.in_ok-sort_by_key.ensures.stable key_of keys) f
          ∙ ap (with_root_function f) c.in_ok-subtrees.ensures;
    }
