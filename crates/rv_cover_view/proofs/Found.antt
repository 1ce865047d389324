-- The counts of an image that is found in a table rise.
use Rattle.std.proofs.Common.{◌≡◌, ◌∙◌, ◌∷◌, [], Bool, true, false, List, Some, ap, cond, find, refl, subst, sym}
use Rattle.std.specs.List.{AllByRecursion}
use Rattle.rv_count_tables.specs.Table.{IsValidImage, increase_from}
use Rattle.rv_count_tables.specs.declared.table.ImageCounts.{ImageCounts}

same : {X : Type 0} {x y : X} → Some x ≡ Some y → x ≡ y
same is = cc

pub found_rises : (test : ImageCounts → Bool) (images : List ImageCounts) (image : ImageCounts) → AllByRecursion IsValidImage images
    → Some image ≡ find test images → increase_from 0 image.addresses ≡ true
found_rises test [] image each is = absurd cc
found_rises test (first ∷ images) image each is = go (test first) refl (found_rises test images image each.1)
  where
    go : (b : Bool) → test first ≡ b → (Some image ≡ find test images → increase_from 0 image.addresses ≡ true)
        → increase_from 0 image.addresses ≡ true
    go true holds rest = subst (λ (i : ImageCounts). increase_from 0 i.addresses ≡ true)
        (sym (same (is ∙ ap (λ b. cond b (Some first) (find test images)) holds))) each.0.counts.rising
    go false holds rest = rest (is ∙ ap (λ b. cond b (Some first) (find test images)) holds)
