use Rattle.std.proofs.Common.{◌≡◌, drop}
use Rattle.rv_memory.specs.Maps.{any_regions_overlap}
use Rattle.rv_memory.proofs.map.any_regions_overlap.Given as goal

abbrev pub invariant-loop-k : goal.invariant-loop-k
invariant-loop-k l = any_regions_overlap (drop l.k l.regions) ≡ any_regions_overlap l.regions
