-- Each image that is read is one more.
use Rattle.std.proofs.Common.{◌+◌, ℕ, None, List, drop, sym, subst, refl}
use Rattle.rv_count_tables.specs.declared.table.ImageCounts.{ImageCounts}
use Rattle.rv_count_tables.specs.ReadSteps.{IsParsedImage, last_digest}
use Rattle.rv_count_tables.proofs.ReadingLines.{ImagesSoFar, no_images_so_far, image_so_far}
use Rattle.rv_count_tables.proofs.read_lines.read_images.Goals as goal

pub images-init : goal.images-init
images-init c = subst (λ (is : List ImageCounts). ImagesSoFar c.args.text.now is 0) (sym c.new-images.ensures.items)
    (no_images_so_far c.args.text.now)

pub images-preserved : goal.images-preserved
images-preserved c =
    let text = c.args.text.now in
    let n = c.images.length in
    let read = c.in-Some.read in
    let found = rw c.in-Some.is at c.in_ok-read.ensures.image in
    let one : IsParsedImage (last_digest None c.images.images.items) (drop n text) read =
    subst (λ (s : List ℕ). IsParsedImage (last_digest None c.images.images.items) s read) c.tail_from.ensures
    (subst (λ (is : List ImageCounts). IsParsedImage (last_digest None is) c.tail_from.result.now read)
    c.as_slice.ensures.value found) in
    subst (λ (is : List ImageCounts). ImagesSoFar text is (n + read.length)) (sym c.in_ok-push_item-in-Some.ensures)
    (image_so_far text c.images.images.items n (n + read.length) read c.images.invariant one refl)
