use Rattle.std.proofs.Common.{◌≡◌, ◌≤◌, ◌++◌, drop, length, take}
use Rattle.std.specs.List.{flat_map}
use Rattle.rv_history.specs.Stops.{watch_bytes}
use Rattle.rv_history.proofs.stops.Stops.have_bytes.Given as goal

abbrev pub invariant-loop-watch : goal.invariant-loop-watch
invariant-loop-watch l = record {
  within : l.seen ≤ length l.bytes;
  so_far : l.bytes ≡ flat_map (watch_bytes l.bus) (take l.watch-index l.watch-items) ++ drop l.seen l.bytes;
}
