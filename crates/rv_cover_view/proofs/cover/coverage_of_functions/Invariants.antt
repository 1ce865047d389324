-- What the functions so far have.
use Rattle.std.proofs.Common.{◌≡◌, map, take}
use Rattle.std.specs.List.{flat_map}
use Rattle.rv_cover_view.specs.Codes.{codes_of}
use Rattle.rv_cover_view.specs.Cover.{totals_of_codes}
use Rattle.rv_cover_view.specs.Functions.{view_of_function}
use Rattle.rv_cover_view.proofs.cover.coverage_of_functions.Given as goal

abbrev pub invariant-loop-function : goal.invariant-loop-function
invariant-loop-function l = l.totals ≡ totals_of_codes l.counts (flat_map codes_of (map view_of_function (take l.function-index l.functions)))
