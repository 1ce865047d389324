use Rattle.std.proofs.Common.{◌≡◌, take}
use Rattle.rv_elf.specs.Image.{loaded_segments}
use Rattle.rv_elf.proofs.program_headers.loaded_segments.Given as goal

abbrev pub invariant-loop-header : goal.invariant-loop-header
invariant-loop-header l = l.segments.items ≡ loaded_segments (take l.header-index l.headers)
