use Rattle.std.proofs.Common.{◌∙◌, Some, ap, arith, sym}
use Rattle.rv_cover_view.proofs.FirstFound.{none_more}
use Rattle.rv_cover_view.proofs.OtherImages.{is_other, no_other, other_here}
use Rattle.rv_cover_view.specs.declared.image_file.ImageFile.{ImageFile}
use Rattle.rv_cover_view.proofs.image_counts.other_image.Goals as goal

pub loop-image-preserved : goal.loop-image-preserved
loop-image-preserved c =
    none_more (is_other c.args.table.now) c.args.images.now c.loop-image.image-index c.image-item.result c.loop-image-test.true
    c.loop-image.invariant
    (ap (is_other c.args.table.now) (sym c.image-item.is) ∙ (sym c.in_ok-has_other_image_at_path.ensures ∙ c.if-branch.false))

pub returns-then-branch : goal.returns-then-branch
returns-then-branch c =
    ap (λ (file : ImageFile). Some file.path.now) c.image-item.is
    ∙ other_here c.args.table.now c.args.images.now c.loop-image.image-index c.image-item.result c.loop-image-test.true
    c.loop-image.invariant
    (ap (is_other c.args.table.now) (sym c.image-item.is) ∙ (sym c.in_ok-has_other_image_at_path.ensures ∙ c.if-branch.true))

pub returns : goal.returns
returns c = no_other c.args.table.now c.args.images.now c.loop-image.image-index (omega arith) c.loop-image.invariant
