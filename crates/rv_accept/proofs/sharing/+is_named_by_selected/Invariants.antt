use Rattle.std.proofs.Common.{length}
use Rattle.rv_accept.proofs.sharing.+is_named_by_selected.Given as goal

abbrev pub decreases-is_named_by_selected : goal.decreases-is_named_by_selected
decreases-is_named_by_selected l = length l.jobs.now
