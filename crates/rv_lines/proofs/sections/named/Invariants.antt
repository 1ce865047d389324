use Rattle.std.proofs.Common.{◌≡◌, ◌-◌, map}
use Rattle.std.specs.List.{find, range_with_len}
use Rattle.rv_elf.specs.Sections.{e_shnum}
use Rattle.rv_lines.specs.Sections.{is_named_either, names_of, section_of_index, named}
use Rattle.rv_lines.proofs.sections.named.Given as goal

abbrev pub invariant-loop-index : goal.invariant-loop-index
invariant-loop-index l =
    find (is_named_either (names_of l.file) l.plain l.gnu) (map (section_of_index l.file) (range_with_len l.index (e_shnum l.file - l.index))) ≡ named l.file l.plain l.gnu
