use Rattle.rvtest_app.proofs.BegunSums.{one_more_address}
use Rattle.rvtest_app.proofs.counts_note.add_executed.Goals as goal

pub loop-counts-preserved : goal.loop-counts-preserved
loop-counts-preserved c =
    one_more_address c.args.before c.args.addresses.now c.loop-counts.counts-index _ c.loop-counts.total _
    c.loop-counts-test.true c.loop-counts.invariant c.saturating_add-total.ensures
