use Rattle.std.proofs.Common.{◌≡◌, take}
use Rattle.std.specs.List.{flat_map}
use Rattle.rv_history.specs.Stops.{watch_bytes}
use Rattle.rv_history.proofs.stops.Stops.watched_bytes.Given as goal

abbrev pub invariant-loop-watch : goal.invariant-loop-watch
invariant-loop-watch l = l.bytes.items ≡ flat_map (watch_bytes l.bus) (take l.watch-index l.watch-items)
