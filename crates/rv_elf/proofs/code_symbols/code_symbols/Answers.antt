-- One symbol more is kept, or is none of code.
use Rattle.std.proofs.Common.{◌∙◌, ◌++◌, ◌∷◌, [], ap, sym}
use Rattle.rv_elf.specs.declared.code_symbols.CodeSymbol.{CodeSymbol}
use Rattle.rv_elf.proofs.CodeRanks.{none_yet, with_symbol, without_symbol}
use Rattle.rv_elf.proofs.code_symbols.code_symbols.Goals as goal
use Rattle.rv_elf.proofs.code_symbols.code_symbols.Goals.{then-is_named_code+in_ok-push, else-is_named_code}

pub loop-k-init : goal.loop-k-init
loop-k-init c = none_yet c.args.table.now c.args.strings.now _ c.new-symbols.ensures.items

pub loop-k-preserved : goal.loop-k-preserved
loop-k-preserved c =
    elim c.if-is_named_code.branch [
      | then-is_named_code+in_ok-push w ↦
          rw w.symbols-is (with_symbol c.args.table.now c.args.strings.now c.loop-k.k c.loop-k.symbols.items c.loop-k.invariant
          c.symbol_at_offset-symbol.result c.symbol_at_offset-symbol.ensures (sym c.is_named_code.ensures ∙ w.if-is_named_code.true)
          _ (w.in_ok-push.ensures.items ∙ ap (λ (s : CodeSymbol). c.loop-k.symbols.items ++ s ∷ []) w.code_symbol.ensures))
      | else-is_named_code w ↦
          rw w.symbols-is (without_symbol c.args.table.now c.args.strings.now c.loop-k.k c.loop-k.symbols.items c.loop-k.invariant
          c.symbol_at_offset-symbol.result c.symbol_at_offset-symbol.ensures (sym c.is_named_code.ensures ∙ w.if-is_named_code.false))
    ]
