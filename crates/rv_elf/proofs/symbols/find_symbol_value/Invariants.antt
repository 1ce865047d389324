use Rattle.std.proofs.Common.{◌≡◌, ◌-◌, ◌*◌, ◌/◌, map, length}
use Rattle.std.specs.List.{find, range_with_len}
use Rattle.rv_elf.specs.Sections.{symbol_at_offset, symbol_named, is_named}
use Rattle.rv_elf.proofs.symbols.find_symbol_value.Given as goal

abbrev pub invariant-loop-k : goal.invariant-loop-k
invariant-loop-k l = find (is_named l.strings l.name)
    (map (λ j. symbol_at_offset l.table (16 * j)) (range_with_len l.k (length l.table / 16 - l.k)))
    ≡ symbol_named l.table l.strings l.name
