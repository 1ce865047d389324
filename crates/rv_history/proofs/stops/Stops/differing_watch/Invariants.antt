use Rattle.std.proofs.Common.{◌≡◌, drop}
use Rattle.rv_history.specs.Stops.{first_differing}
use Rattle.rv_history.proofs.stops.Stops.differing_watch.Given as goal

abbrev pub invariant-loop-watch : goal.invariant-loop-watch
invariant-loop-watch l = first_differing l.watch-items l.first l.second ≡ first_differing (drop l.watch-index l.watch-items) l.first l.second
