use Rattle.std.proofs.Common.{◌≡◌, ◌++◌}
use Rattle.std.specs.FinMap as fin
use Rattle.std.specs.List.{filter_map, range_with_len}
use Rattle.rv_history.proofs.stops.Watch.push_bytes.Given as goal

abbrev pub invariant-loop-offset : goal.invariant-loop-offset
invariant-loop-offset l =
    l.bytes.items ≡ l.fn.bytes.items ++ filter_map (fin.get l.bus.memory) (range_with_len l.self.address l.offset)
