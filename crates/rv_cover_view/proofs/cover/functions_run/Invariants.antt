-- Those of the functions so far.
use Rattle.std.proofs.Common.{◌≡◌, count_by, map, take}
use Rattle.rv_cover_view.specs.Cover.{has_run}
use Rattle.rv_cover_view.specs.Functions.{view_of_function}
use Rattle.rv_cover_view.proofs.cover.functions_run.Given as goal

abbrev pub invariant-loop-function : goal.invariant-loop-function
invariant-loop-function l = l.count ≡ count_by (has_run l.counts) (map view_of_function (take l.function-index l.functions))
