use Rattle.std.proofs.Common.{◌≡◌, ◌*◌, map}
use Rattle.std.specs.List.{filter_map, range_with_len}
use Rattle.rv_elf.specs.Functions.{function_of_symbol}
use Rattle.rv_elf.specs.Sections.{symbol_at_offset}
use Rattle.rv_elf.proofs.function.functions_in.Given as goal

abbrev pub invariant-loop-k : goal.invariant-loop-k
invariant-loop-k l = map (λ f. (f.name.now, (f.address, f.code.now))) l.functions.items
    ≡ filter_map (function_of_symbol l.segments l.file l.strings) (map (λ k. symbol_at_offset l.table (16 * k)) (range_with_len 0 l.k))
