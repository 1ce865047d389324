-- The images add up, and so their tables do.
use Rattle.std.proofs.Common.{rules, List, subst}
use Rattle.rv_count_tables.specs.declared.table.ImageCounts.{ImageCounts}
use Rattle.rv_count_tables.specs.SumSteps.{ImagesAddUp}
use Rattle.rv_count_tables.proofs.AddingImages.{tables_add_up}
use Rattle.rv_count_tables.proofs.sum.sum_of_tables.Goals as goal

pub returns-clause-value : goal.returns-clause-value
returns-clause-value c =
    let a = c.args.a.now in
    let b = c.args.b.now in
    let images = c.in_ok-images.images in
    let up : ImagesAddUp a.images b.images images =
    subst (λ (is : List ImageCounts). ImagesAddUp a.images is images) c.as_slice-2.ensures
    (subst (λ (is : List ImageCounts). ImagesAddUp is c.as_slice-2.result.now images) c.as_slice.ensures
    c.in_ok-images.ensures.value) in
    tables_add_up a b _ c.requires.a c.requires.b up (search rules) (search rules) (search rules)
