use Rattle.std.proofs.Common.{◌≡◌, ◌-◌, map}
use Rattle.std.specs.List.{find, range_with_len}
use Rattle.rv_elf.specs.Sections.{section_at_index, is_symbol_section, e_shnum, symbol_table_section}
use Rattle.rv_elf.proofs.sections.symbol_table_section.Given as goal

abbrev pub invariant-loop-index : goal.invariant-loop-index
invariant-loop-index l = find is_symbol_section (map (section_at_index l.file) (range_with_len l.index (e_shnum l.file - l.index)))
    ≡ symbol_table_section l.file
