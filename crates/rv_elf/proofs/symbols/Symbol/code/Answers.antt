use Rattle.std.proofs.Common.{length, sym}
use Rattle.rv_elf.proofs.Coding.{code_is_placed}
use Rattle.rv_elf.proofs.symbols.Symbol.code.Goals as goal

pub overflow_sub-at : goal.overflow_sub-at
overflow_sub-at c = (code_is_placed (length c.args.file.now) c.args.self.now c.args.segments.now c.in_ok-segment.segment.now
    (sym c.in_ok-segment.ensures) c.requires.in_file c.requires.has_size).above

pub slice_bounds-result-end : goal.slice_bounds-result-end
slice_bounds-result-end c = (code_is_placed (length c.args.file.now) c.args.self.now c.args.segments.now c.in_ok-segment.segment.now
    (sym c.in_ok-segment.ensures) c.requires.in_file c.requires.has_size).within
