use Rattle.rvtest_app.proofs.BegunSums.{one_more_image}
use Rattle.rvtest_app.proofs.counts_note.executed_in_images.Goals as goal

pub loop-image-preserved : goal.loop-image-preserved
loop-image-preserved c =
    one_more_image c.args.images.now c.loop-image.image-index c.image-item.result c.loop-image.total _
    c.loop-image-test.true c.image-item.is c.loop-image.invariant (rw c.as_slice.ensures at c.add_executed-total.ensures)
