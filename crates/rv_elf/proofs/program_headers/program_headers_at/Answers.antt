use Rattle.std.proofs.Common.{◌∙◌, ◌+◌, ◌*◌, arith, sym}
use Rattle.std.proofs.lemmas.List.FromFn.{map-range_with_len_more}
use Rattle.rv_elf.specs.Image.{program_header_at}
use Rattle.rv_elf.proofs.program_headers.program_headers_at.Goals as goal

pub loop-k-preserved : goal.loop-k-preserved
loop-k-preserved c = c.in_ok-push.ensures.items ∙ rw (c.loop-k.invariant, c.program_header_at.ensures)
    (sym (map-range_with_len_more (λ j. program_header_at c.args.file.now (c.args.offset + 32 * j)) 0 c.loop-k.k c.loop-k.k
    (omega arith)))
