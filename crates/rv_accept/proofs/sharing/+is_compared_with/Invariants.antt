use Rattle.std.proofs.Common.{length}
use Rattle.rv_accept.proofs.sharing.+is_compared_with.Given as goal

abbrev pub decreases-is_compared_with : goal.decreases-is_compared_with
decreases-is_compared_with l = length l.jobs.now
