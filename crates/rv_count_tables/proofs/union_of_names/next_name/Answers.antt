-- Each case is a lemma.
use Rattle.std.proofs.Common.{◌≡◌, ◌<◌, length, arith}
use Rattle.std.proofs.lemmas.Bool.{both_ways}
use Rattle.std.proofs.lemmas.Bool.Decides.{nat_tests}
use Rattle.std.proofs.lemmas.Result.{IfOk-weaker}
use Rattle.rv_count_tables.proofs.AddingNames.{name_of_first_alone, name_of_second_alone, name_of_first, name_of_second, name_of_both, other_names_first}
use Rattle.rv_count_tables.proofs.union_of_names.next_name.Goals as goal

pub returns-then-is_empty-clause-value : goal.returns-then-is_empty-clause-value
returns-then-is_empty-clause-value c =
    let e = c.if-is_empty.ensures in
    let none : length c.args.b.now ≡ 0 = grind (arith, nat_tests, e) in
    let some = c.requires.not_both_empty in
    IfOk-weaker _ _ _ (λ next is. name_of_first_alone _ _ _ c.requires.a (omega (arith, some, none)) none
    c.index-a-0.is next is) c.name_of_first.ensures.value

pub returns-then-is_empty-2-clause-value : goal.returns-then-is_empty-2-clause-value
returns-then-is_empty-2-clause-value c =
    let e = c.if-is_empty-2.ensures in
    let none : length c.args.a.now ≡ 0 = grind (arith, nat_tests, e) in
    let some = c.requires.not_both_empty in
    IfOk-weaker _ _ _ (λ next is. name_of_second_alone _ _ _ c.requires.b (omega (arith, some, none)) none
    c.index-b-0.is next is) c.name_of_second.ensures.value

pub returns-then-first-second-clause-value : goal.returns-then-first-second-clause-value
returns-then-first-second-clause-value c =
    let e = c.if-is_empty-2.ensures in
    let f = c.if-is_empty.ensures in
    let some : 0 < length c.args.a.now = grind (arith, nat_tests, e) in
    let other : 0 < length c.args.b.now = grind (arith, nat_tests, f) in
    IfOk-weaker _ _ _ (λ next is. name_of_first _ _ _ _ c.requires.a some other c.index-a-0-2.is c.index-b-0-2.is
    c.if-first-second.true next is) c.name_of_first-then-first-second.ensures.value

pub returns-then-second-first-clause-value : goal.returns-then-second-first-clause-value
returns-then-second-first-clause-value c =
    let e = c.if-is_empty-2.ensures in
    let f = c.if-is_empty.ensures in
    let some : 0 < length c.args.a.now = grind (arith, nat_tests, e) in
    let other : 0 < length c.args.b.now = grind (arith, nat_tests, f) in
    IfOk-weaker _ _ _ (λ next is. name_of_second _ _ _ _ c.requires.b some other c.index-a-0-2.is c.index-b-0-2.is
    c.if-second-first.true next is) c.name_of_second-then-second-first.ensures.value

pub returns-then-not-have_equal_names-clause-error : goal.returns-then-not-have_equal_names-clause-error
returns-then-not-have_equal_names-clause-error c =
    let e = c.if-is_empty-2.ensures in
    let f = c.if-is_empty.ensures in
    let some : 0 < length c.args.a.now = grind (arith, nat_tests, e) in
    let other : 0 < length c.args.b.now = grind (arith, nat_tests, f) in
    let n = c.if-first-second.false in
    let m = c.if-second-first.false in
    other_names_first _ _ c.index-a-0-2.result c.index-b-0-2.result some other c.index-a-0-2.is c.index-b-0-2.is
    (omega (arith, n, m)) (λ one. both_ways _ c.if-not-have_equal_names.true (c.have_equal_names.ensures.1 one))

pub returns-clause-value : goal.returns-clause-value
returns-clause-value c =
    let e = c.if-is_empty-2.ensures in
    let f = c.if-is_empty.ensures in
    let some : 0 < length c.args.a.now = grind (arith, nat_tests, e) in
    let other : 0 < length c.args.b.now = grind (arith, nat_tests, f) in
    let n = c.if-first-second.false in
    let m = c.if-second-first.false in
    name_of_both _ _ c.index-a-0-2.result c.index-b-0-2.result c.requires.a some other c.index-a-0-2.is c.index-b-0-2.is
    (omega (arith, n, m)) (c.have_equal_names.ensures.0 c.if-not-have_equal_names.false) _
    (λ i. record { name = c.in_ok-name.ensures i; count_in_a = 1; count_in_b = 1 })
