use Rattle.std.proofs.Common.{◌∙◌, ◌*◌, ◌/◌, sym, ap, length}
use Rattle.rv_elf.specs.Sections.{symbol_at_offset, is_named, symbol_named}
use Rattle.rv_elf.proofs.Finding.{found_later, found_whole}
use Rattle.rv_elf.proofs.symbols.find_symbol_value.Goals as goal

pub loop-k-init : goal.loop-k-init
unfolding symbol_named
loop-k-init c = found_whole (is_named c.args.strings.now c.args.name.now) (λ k. symbol_at_offset c.args.table.now (16 * k))
    (length c.args.table.now / 16)

pub loop-k-preserved : goal.loop-k-preserved
loop-k-preserved c =
    let test = is_named c.args.strings.now c.args.name.now in
    let other = ap test (sym c.symbol_at_offset-symbol.ensures) ∙ sym c.is_named.ensures ∙ c.if-is_named.false in
    found_later test (λ k. symbol_at_offset c.args.table.now (16 * k)) c.loop-k.k
    (length c.args.table.now / 16) c.loop-k-test.true other ∙ c.loop-k.invariant
