use Rattle.std.proofs.Common.{◌∙◌, ◌<◌, sym, ap, subst, ne_eqb}
use Rattle.rv_elf.specs.Sections.{section_at_index, is_symbol_section, e_shnum, symbol_table_section}
use Rattle.rv_elf.proofs.Finding.{found_later, found_whole}
use Rattle.rv_elf.proofs.sections.symbol_table_section.Goals as goal

pub loop-index-init : goal.loop-index-init
unfolding symbol_table_section
loop-index-init c = found_whole is_symbol_section (section_at_index c.args.file.now) (e_shnum c.args.file.now)

pub loop-index-preserved : goal.loop-index-preserved
loop-index-preserved c =
    let below : c.loop-index.index < e_shnum c.args.file.now = subst (λ n. c.loop-index.index < n)
    (c.from-index-end.ensures ∙ c.half_field.ensures) c.loop-index-test.true in
    let other = ap is_symbol_section (sym c.section_at_index-section.ensures) ∙ ne_eqb _ _ c.if-section-eq-SHT_SYMTAB.false in
    found_later is_symbol_section (section_at_index c.args.file.now) c.loop-index.index (e_shnum c.args.file.now) below other
    ∙ c.loop-index.invariant
