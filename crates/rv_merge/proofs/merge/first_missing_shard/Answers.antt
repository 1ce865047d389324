use Rattle.std.proofs.Common.{rules}
use Rattle.rv_merge.proofs.merge.first_missing_shard.Goals as goal

pub loop-at-preserved : goal.loop-at-preserved
loop-at-preserved c = search rules
