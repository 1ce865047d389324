use Rattle.std.proofs.Common.{◌<◌}
use Rattle.rv_history.proofs.checkpoints.machine_size.Given as goal

abbrev pub invariant-loop-region : goal.invariant-loop-region
invariant-loop-region l = 0 < l.size
