use Rattle.std.proofs.Common.{◌≡◌, drop}
use Rattle.rv_elf.specs.Loading.{any_segments_overlap}
use Rattle.rv_elf.proofs.loading.any_segments_overlap.Given as goal

abbrev pub invariant-loop-k : goal.invariant-loop-k
invariant-loop-k l = any_segments_overlap l.load_at (drop l.k l.segments) ≡ any_segments_overlap l.load_at l.segments
