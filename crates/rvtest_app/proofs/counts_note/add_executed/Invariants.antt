use Rattle.std.proofs.Common.{◌≡◌, ◌+◌, take}
use Rattle.rvtest_app.specs.CountSums.{executed_at_addresses, capped_number}
use Rattle.rvtest_app.proofs.counts_note.add_executed.Given as goal

abbrev pub invariant-loop-counts : goal.invariant-loop-counts
invariant-loop-counts l = l.total ≡ capped_number (l.before + executed_at_addresses (take l.counts-index l.addresses))
