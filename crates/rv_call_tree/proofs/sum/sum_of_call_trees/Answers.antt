-- The next spot of both is added; at the end both are.
use Rattle.std.proofs.Common.{◌≡◌, ◌+◌, ◌<◌, List, length, drop, length-drop, sym, subst, arith}
use Rattle.std.proofs.lemmas.List.{take_rest}
use Rattle.std.proofs.lemmas.Result.{err_from_is_err_and}
use Rattle.rv_call_tree.specs.declared.call_node.CallNode.{CallNode}
use Rattle.rv_call_tree.specs.declared.sum.NextNode.{NextNode}
use Rattle.std.specs.List.{AllByRecursion}
use Rattle.rv_call_tree.specs.Sums.{next_of, FitsFields, IsSumOfCallTrees}
use Rattle.rv_call_tree.proofs.Merged.{all_added, each_push, few_of, more_added, none_added, overflow, Added, FewOf}
use Rattle.rv_call_tree.proofs.sum.sum_of_call_trees.Goals as goal
use Rattle.rv_call_tree.proofs.sum.sum_of_call_trees.Goals.{then-from_a-a, else-from_a-a+then-from_b-b}

pub loop-from_a-init : goal.loop-from_a-init
loop-from_a-init c = record {
  within_a = omega arith;
  within_b = omega arith;
  added = subst (λ (sums : List CallNode). Added c.args.a.now c.args.b.now 0 0 sums) (sym c.new-sums.ensures.items)
      (none_added c.args.a.now c.args.b.now c.requires.a c.requires.b);
  fits = subst (λ (sums : List CallNode). AllByRecursion FitsFields sums) (sym c.new-sums.ensures.items) tt;
}

pub loop-from_a-preserved : goal.loop-from_a-preserved
loop-from_a-preserved c =
    let a = c.args.a.now in
    let b = c.args.b.now in
    let i = c.loop-from_a.from_a in
    let j = c.loop-from_a.from_b in
    let inv = c.loop-from_a.invariant in
    let next = c.in_ok-next.next in
    let rest_a = length-drop i a in
    let rest_b = length-drop j b in
    let some : 0 < length (drop i a) + length (drop j b) = elim c.if-from_a-a.branch [
      | then-from_a-a w ↦ let less = w.if-from_a-a.true in omega (arith, less, rest_a)
      | else-from_a-a+then-from_b-b w ↦ let less = w.if-from_b-b.true in omega (arith, less, rest_b)
    ] in
    let is : next ≡ next_of (drop i a) (drop j b) = simp take_rest at c.in_ok-next.ensures.value in
    let few = subst (λ (n : NextNode). FewOf (drop i a) (drop j b) n) (sym is) (few_of (drop i a) (drop j b) some) in record {
      within_a = (let m = few.count_in_a in let w = inv.within_a in omega (arith, m, w, rest_a));
      within_b = (let m = few.count_in_b in let w = inv.within_b in omega (arith, m, w, rest_b));
      added = subst (λ (sums : List CallNode). Added a b (i + next.count_in_a) (j + next.count_in_b) sums) (sym c.in_ok-push_node.ensures)
          (more_added a b c.loop-from_a.sums.items i j next inv.added some is);
      fits = subst (λ (sums : List CallNode). AllByRecursion FitsFields sums) (sym c.in_ok-push_node.ensures)
          (each_push FitsFields c.loop-from_a.sums.items next.node inv.fits c.in_ok-next.ensures.fits);
    }

pub returns-in_err-next-clause-error : goal.returns-in_err-next-clause-error
returns-in_err-next-clause-error c =
    let error = err_from_is_err_and c.from_residual.result c.from_residual.ensures.1 in
    let refused = simp take_rest at c.in_err-next.ensures.error in
    rw (error.1, error.2)
    (overflow c.args.a.now c.args.b.now c.loop-from_a.sums.items c.loop-from_a.from_a c.loop-from_a.from_b _
    c.loop-from_a.invariant.added refused)

pub returns-clause-value : goal.returns-clause-value
returns-clause-value c =
    let inv = c.loop-from_a.invariant in
    let n = c.if-from_a-a.false in
    let m = c.if-from_b-b.false in
    subst (λ (s : List CallNode). IsSumOfCallTrees c.args.a.now c.args.b.now s) (sym c.new.ensures)
    (all_added c.args.a.now c.args.b.now c.loop-from_a.sums.items c.loop-from_a.from_a c.loop-from_a.from_b
    inv.added (omega (arith, n)) (omega (arith, m)))

pub returns-clause-fits : goal.returns-clause-fits
returns-clause-fits c = subst (λ (s : List CallNode). AllByRecursion FitsFields s) (sym c.new.ensures) c.loop-from_a.invariant.fits
