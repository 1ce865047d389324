-- Those of the functions so far.
use Rattle.std.proofs.Common.{◌≡◌, map, take}
use Rattle.rv_cover_view.specs.Cover.{never_run}
use Rattle.rv_cover_view.specs.Functions.{view_of_function}
use Rattle.rv_cover_view.proofs.cover.never_run.Given as goal

abbrev pub invariant-loop-function : goal.invariant-loop-function
invariant-loop-function l = map view_of_function l.found.items ≡ never_run l.counts (map view_of_function (take l.function-index l.functions))
