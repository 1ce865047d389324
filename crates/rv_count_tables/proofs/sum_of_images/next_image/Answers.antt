-- Each case is a lemma.
use Rattle.std.proofs.Common.{◌≡◌, ◌<◌, length, sym, arith}
use Rattle.std.proofs.lemmas.Bool.Decides.{nat_tests}
use Rattle.std.proofs.lemmas.Result.{err_from_is_err_and, IfOk-weaker}
use Rattle.rv_count_tables.proofs.AddingImages.{image_of_first_alone, image_of_second_alone, image_of_first, image_of_second}
use Rattle.rv_count_tables.proofs.AddingImages.{image_of_both, no_sum_of_first}
use Rattle.rv_count_tables.proofs.sum_of_images.next_image.Goals as goal

pub returns-then-is_empty-clause-value : goal.returns-then-is_empty-clause-value
returns-then-is_empty-clause-value c =
    let e = c.if-is_empty.ensures in
    let none : length c.args.b.now ≡ 0 = grind (arith, nat_tests, e) in
    let some = c.requires.not_both_empty in
    IfOk-weaker _ _ _ (λ next is. image_of_first_alone _ _ _ c.requires.a (omega (arith, some, none)) none
    c.index-a-0.is next is) c.image_of_first.ensures.value

pub returns-then-is_empty-2-clause-value : goal.returns-then-is_empty-2-clause-value
returns-then-is_empty-2-clause-value c =
    let e = c.if-is_empty-2.ensures in
    let none : length c.args.a.now ≡ 0 = grind (arith, nat_tests, e) in
    let some = c.requires.not_both_empty in
    IfOk-weaker _ _ _ (λ next is. image_of_second_alone _ _ _ c.requires.b (omega (arith, some, none)) none
    c.index-b-0.is next is) c.image_of_second.ensures.value

pub returns-then-has_lower_digest-clause-value : goal.returns-then-has_lower_digest-clause-value
returns-then-has_lower_digest-clause-value c =
    let e = c.if-is_empty-2.ensures in
    let f = c.if-is_empty.ensures in
    let some : 0 < length c.args.a.now = grind (arith, nat_tests, e) in
    let other : 0 < length c.args.b.now = grind (arith, nat_tests, f) in
    IfOk-weaker _ _ _ (λ next is. image_of_first _ _ _ _ c.requires.a some other c.index-a-0-2.is c.index-b-0-2.is
    (sym c.if-has_lower_digest.ensures) next is) c.image_of_first-then-has_lower_digest.ensures.value

pub returns-then-has_lower_digest-2-clause-value : goal.returns-then-has_lower_digest-2-clause-value
returns-then-has_lower_digest-2-clause-value c =
    let e = c.if-is_empty-2.ensures in
    let f = c.if-is_empty.ensures in
    let some : 0 < length c.args.a.now = grind (arith, nat_tests, e) in
    let other : 0 < length c.args.b.now = grind (arith, nat_tests, f) in
    IfOk-weaker _ _ _ (λ next is. image_of_second _ _ _ _ c.requires.b some other c.index-a-0-2.is c.index-b-0-2.is
    (sym c.if-has_lower_digest-2.ensures) next is) c.image_of_second-then-has_lower_digest-2.ensures.value

pub returns-in_err-image-clause-error : goal.returns-in_err-image-clause-error
returns-in_err-image-clause-error c =
    let e = c.if-is_empty-2.ensures in
    let f = c.if-is_empty.ensures in
    let some : 0 < length c.args.a.now = grind (arith, nat_tests, e) in
    let other : 0 < length c.args.b.now = grind (arith, nat_tests, f) in
    let error = err_from_is_err_and c.from_residual.result c.from_residual.ensures.1 in
    rw (error.1, error.2)
    (no_sum_of_first _ _ _ _ _ some other c.index-a-0-2.is c.index-b-0-2.is (sym c.if-has_lower_digest.ensures)
    (sym c.if-has_lower_digest-2.ensures) c.in_err-image.ensures.error)

pub returns-clause-value : goal.returns-clause-value
returns-clause-value c =
    let e = c.if-is_empty-2.ensures in
    let f = c.if-is_empty.ensures in
    let some : 0 < length c.args.a.now = grind (arith, nat_tests, e) in
    let other : 0 < length c.args.b.now = grind (arith, nat_tests, f) in
    let ensures = c.in_ok-image.ensures in
    image_of_both _ _ _ _ _ c.requires.a c.requires.b some other c.index-a-0-2.is c.index-b-0-2.is
    (sym c.if-has_lower_digest.ensures) (sym c.if-has_lower_digest-2.ensures) ensures.digest ensures.path ensures.counts
    ensures.names ensures.names_of_nodes ensures.valid_nodes ensures.nodes
