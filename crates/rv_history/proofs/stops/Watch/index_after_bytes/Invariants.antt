use Rattle.std.proofs.Common.{◌≡◌, ◌≤◌, ◌++◌, drop, length}
use Rattle.std.specs.FinMap as fin
use Rattle.std.specs.List.{filter_map, range_with_len}
use Rattle.rv_history.proofs.stops.Watch.index_after_bytes.Given as goal

abbrev pub invariant-loop-offset : goal.invariant-loop-offset
invariant-loop-offset l = record {
  within : l.seen ≤ length l.bytes;
  so_far : drop l.from l.bytes ≡ filter_map (fin.get l.bus.memory) (range_with_len l.self.address l.offset) ++ drop l.seen l.bytes;
}
