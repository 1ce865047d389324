use Rattle.std.proofs.Common.{◌≡◌, take}
use Rattle.rv_elf.specs.Loading.{initial_memory}
use Rattle.rv_elf.proofs.loading.load.Given as goal

abbrev pub invariant-loop-segment : goal.invariant-loop-segment
invariant-loop-segment l =
    l.bus ≡ record l.fn.bus {
      memory = initial_memory l.fn.bus.regions
          (take l.segment-index l.fn.image.segments) l.fn.file l.fn.load_at;
    }
