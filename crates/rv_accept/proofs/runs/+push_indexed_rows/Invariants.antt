use Rattle.std.proofs.Common.{length}
use Rattle.rv_accept.proofs.runs.+push_indexed_rows.Given as goal

abbrev pub decreases-push_indexed_rows : goal.decreases-push_indexed_rows
decreases-push_indexed_rows l = length l.selection.now
