use Rattle.std.proofs.Common.{◌≡◌, ◌+◌, ◌*◌, map}
use Rattle.std.specs.List.{range_with_len}
use Rattle.rv_elf.specs.Image.{program_header_at}
use Rattle.rv_elf.proofs.program_headers.program_headers_at.Given as goal

abbrev pub invariant-loop-k : goal.invariant-loop-k
invariant-loop-k l = l.headers.items ≡ map (λ j. program_header_at l.file (l.offset + 32 * j)) (range_with_len 0 l.k)
