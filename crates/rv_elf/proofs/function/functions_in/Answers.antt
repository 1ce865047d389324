use Rattle.std.proofs.Common.{◌∙◌, ◌*◌, ℕ, sym}
use Rattle.rv_elf.specs.Sections.{symbol_at_offset}
use Rattle.rv_elf.proofs.Coding.{with_function, without_function}
use Rattle.rv_elf.proofs.function.functions_in.Goals as goal
use Rattle.rv_elf.proofs.function.functions_in.Goals.{then-is_sized_function+in_ok-push_function, else-is_sized_function}

pub loop-k-preserved : goal.loop-k-preserved
loop-k-preserved c =
    let entry = λ (k : ℕ). symbol_at_offset c.args.table.now (16 * k) in
    elim c.if-is_sized_function.branch [
      | then-is_sized_function+in_ok-push_function w ↦
          rw w.functions-is (with_function c.args.segments.now c.args.file.now c.args.strings.now entry c.loop-k.k c.symbol_at_offset-symbol.result
          c.symbol_at_offset-symbol.ensures _ _
          c.loop-k.invariant w.in_ok-push_function.ensures)
      | else-is_sized_function w ↦
          rw w.functions-is (without_function c.args.segments.now c.args.file.now c.args.strings.now entry c.loop-k.k c.symbol_at_offset-symbol.result
          c.symbol_at_offset-symbol.ensures _ c.loop-k.invariant (sym c.is_sized_function.ensures ∙ w.if-is_sized_function.false))
    ]
