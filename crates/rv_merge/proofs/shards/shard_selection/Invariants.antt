use Rattle.std.proofs.Common.{◌≡◌}
use Rattle.rv_merge.specs.Shards.{shard_selection}
use Rattle.rv_merge.proofs.shards.shard_selection.Given as goal

abbrev pub invariant-loop-index : goal.invariant-loop-index
invariant-loop-index l = l.selection.items ≡ shard_selection l.shards l.number l.index
