-- Each case is a lemma.
use Rattle.std.proofs.Common.{◌≡◌, ◌<◌, length, sym, subst, arith}
use Rattle.std.proofs.lemmas.Bool.Decides.{nat_tests}
use Rattle.rv_count_tables.specs.declared.sum_of_counts.NextCount.{NextCount}
use Rattle.rv_count_tables.specs.SumSteps.{IsNextCount}
use Rattle.rv_count_tables.proofs.Adding.{of_first_alone, of_second_alone, node_of_first, node_of_second, of_both}
use Rattle.rv_count_tables.proofs.sum_of_counts.next_count.Goals as goal

pub returns-then-is_empty-clause-value : goal.returns-then-is_empty-clause-value
returns-then-is_empty-clause-value c =
    let e = c.if-is_empty.ensures in
    let none : length c.args.b.now ≡ 0 = grind (arith, nat_tests, e) in
    let some = c.requires.not_both_empty in
    subst (λ (n : NextCount). IsNextCount c.args.a.now c.args.b.now n) (sym c.count_of_first.ensures)
    (of_first_alone _ _ _ c.requires.a (omega (arith, some, none)) none)

pub returns-then-is_empty-2-clause-value : goal.returns-then-is_empty-2-clause-value
returns-then-is_empty-2-clause-value c =
    let e = c.if-is_empty-2.ensures in
    let none : length c.args.a.now ≡ 0 = grind (arith, nat_tests, e) in
    let some = c.requires.not_both_empty in
    subst (λ (n : NextCount). IsNextCount c.args.a.now c.args.b.now n) (sym c.count_of_second.ensures)
    (of_second_alone _ _ _ c.requires.b (omega (arith, some, none)) none)

pub returns-then-a-b-clause-value : goal.returns-then-a-b-clause-value
returns-then-a-b-clause-value c =
    let e = c.if-is_empty-2.ensures in
    let f = c.if-is_empty.ensures in
    let some : 0 < length c.args.a.now = grind (arith, nat_tests, e) in
    let other : 0 < length c.args.b.now = grind (arith, nat_tests, f) in
    subst (λ (n : NextCount). IsNextCount c.args.a.now c.args.b.now n) (sym c.count_of_first-then-a-b.ensures)
    (node_of_first _ _ _ c.requires.a some other c.if-a-b.true)

pub returns-then-b-a-clause-value : goal.returns-then-b-a-clause-value
returns-then-b-a-clause-value c =
    let e = c.if-is_empty-2.ensures in
    let f = c.if-is_empty.ensures in
    let some : 0 < length c.args.a.now = grind (arith, nat_tests, e) in
    let other : 0 < length c.args.b.now = grind (arith, nat_tests, f) in
    subst (λ (n : NextCount). IsNextCount c.args.a.now c.args.b.now n) (sym c.count_of_second-then-b-a.ensures)
    (node_of_second _ _ _ c.requires.b some other c.if-b-a.true)

pub returns-clause-value : goal.returns-clause-value
returns-clause-value c =
    let e = c.if-is_empty-2.ensures in
    let f = c.if-is_empty.ensures in
    let some : 0 < length c.args.a.now = grind (arith, nat_tests, e) in
    let other : 0 < length c.args.b.now = grind (arith, nat_tests, f) in
    let n = c.if-a-b.false in
    let m = c.if-b-a.false in
    of_both _ _ _ _ c.requires.a c.requires.b some other (omega (arith, n, m)) c.in_ok-sum.ensures.address
    c.in_ok-sum.ensures.executed c.in_ok-sum.ensures.taken c.in_ok-sum.ensures.fits
