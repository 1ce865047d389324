-- What is refused of the rest is refused of both lists; at the end nothing is left.
use Rattle.std.proofs.Common.{◌∙◌, ◌+◌, List, [], ◌∷◌, ◌++◌, drop, sym, ap, subst, append_assoc, length-drop, arith}
use Rattle.std.proofs.lemmas.List.{drop-drop, take_rest}
use Rattle.std.proofs.lemmas.Result.{err_from_is_err_and}
use Rattle.rv_count_tables.specs.declared.table.ImageCounts.{ImageCounts}
use Rattle.rv_count_tables.specs.SumSteps.{ImagesAddUp, IsNextImage}
use Rattle.rv_count_tables.proofs.AddingImages.{no_sum_of_rest, images_summed}
use Rattle.rv_count_tables.proofs.sum_of_images.sum_of_images.Goals as goal

pub loop-from_a-preserved : goal.loop-from_a-preserved
loop-from_a-preserved c =
    let a = c.args.a.now in
    let b = c.args.b.now in
    let i = c.loop-from_a.from_a in
    let j = c.loop-from_a.from_b in
    let inv = c.loop-from_a.invariant in
    let next = c.in_ok-next.next in
    let is : IsNextImage (drop i a) (drop j b) next = simp take_rest at c.in_ok-next.ensures.value in
    let rest_a = length-drop i a in
    let rest_b = length-drop j b in record {
      within_a = (let m = is.count_in_a in let w = inv.within_a in omega (arith, m, w, rest_a));
      within_b = (let m = is.count_in_b in let w = inv.within_b in omega (arith, m, w, rest_b));
      ahead = λ others h.
          subst (λ (s : List ImageCounts). ImagesAddUp a b s)
          (sym (append_assoc c.loop-from_a.sums.items (next.image ∷ []) others)
          ∙ ap (λ (s : List ImageCounts). s ++ others) (sym c.in_ok-push_item.ensures))
          (inv.ahead (next.image ∷ others)
          (is.ahead others
          (subst (λ (s : List ImageCounts). ImagesAddUp s (drop next.count_in_b (drop j b)) others) (sym (drop-drop next.count_in_a i a))
          (subst (λ (s : List ImageCounts). ImagesAddUp (drop (i + next.count_in_a) a) s others) (sym (drop-drop next.count_in_b j b)) h))));
    }

pub returns-in_err-next-clause-error : goal.returns-in_err-next-clause-error
returns-in_err-next-clause-error c =
    let error = err_from_is_err_and c.from_residual.result c.from_residual.ensures.1 in
    let refused = simp take_rest at c.in_err-next.ensures.error in
    rw (error.1, error.2)
    (no_sum_of_rest c.loop-from_a.from_a c.loop-from_a.from_b c.args.a.now c.args.b.now _ refused)

pub returns-clause-value : goal.returns-clause-value
returns-clause-value c =
    let inv = c.loop-from_a.invariant in
    let n = c.if-from_a-a.false in
    let m = c.if-from_b-b.false in
    subst (λ (s : List ImageCounts). ImagesAddUp c.args.a.now c.args.b.now s) (sym c.new.ensures)
    (images_summed _ _ _ c.loop-from_a.from_a c.loop-from_a.from_b (omega (arith, n)) (omega (arith, m)) inv.ahead)
