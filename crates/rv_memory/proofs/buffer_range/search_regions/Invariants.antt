use Rattle.std.proofs.Common.{◌≡◌, ◌+◌, ◌≤◌, drop, true}
use Rattle.std.specs.List.{list_all}
use Rattle.rv_memory.specs.Regions.{total_size}
use Rattle.rv_memory.specs.Maps.{has_valid_size}
use Rattle.rv_memory.specs.Inside.Places.{located}
use Rattle.rv_memory.proofs.buffer_range.search_regions.Given as goal

abbrev pub invariant-loop-region : goal.invariant-loop-region
invariant-loop-region l = record {
  sized : list_all has_valid_size l.regions ≡ true;
  room : l.at + total_size (drop l.region-index l.regions) ≤ 16777216;
  found : located (drop l.region-index l.regions) l.at l.addr l.len ≡ located l.regions l.start l.addr l.len;
}
