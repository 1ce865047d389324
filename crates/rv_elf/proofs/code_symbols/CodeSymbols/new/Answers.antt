-- Where the tables are refused nothing is found; else the sorted symbols find what the table has.
use Rattle.std.proofs.Common.{◌≡◌, [], length, ap, arith}
use Rattle.rv_elf.specs.CodeSymbols.{symbol_count}
use Rattle.rv_elf.proofs.CodeRanks.{all_named, find_nothing, find_sorted, values_in_order}
use Rattle.rv_elf.proofs.Naming.{header_there}
use Rattle.rv_elf.proofs.code_symbols.CodeSymbols.new.Goals as goal

pub symbol_and_string_bytes-requires : goal.symbol_and_string_bytes-requires
symbol_and_string_bytes-requires c = header_there c.args.bytes.now c.args.image.now c.requires.image

pub invariant_of-result : goal.invariant_of-result
invariant_of-result c =
    let long : length c.new.result.items ≡ 0 = ap length c.new.ensures.items in
    record {
      rising = λ i j d le lt. absurd (omega (arith, lt, long));
      named = λ k d lt. absurd (omega (arith, lt, long));
      agree_with_symbol_at = find_nothing c.args.image.now c.args.bytes.now [] c.new.result.items c.in_default.field-0
          c.in_default.ensures.check c.new.ensures.items;
    }

pub invariant_of-result-2 : goal.invariant_of-result-2
invariant_of-result-2 c =
    let table = c.in-Ok.table.now in
    let strings = c.in-Ok.strings.now in
    let symbols = c.in_ok-symbols.symbols.items in
    let are = c.in_ok-symbols.ensures.symbols in
    let rising = c.in_ok-symbols.ensures.sorted in
    record {
      rising = values_in_order table strings (symbol_count table) symbols are rising;
      named = all_named table strings (symbol_count table) symbols are;
      agree_with_symbol_at = find_sorted c.args.image.now c.args.bytes.now strings symbols table c.in-Ok.ensures.check c.in-Ok.ensures.bytes
          are rising c.in-Ok.ensures.fits_32_bits;
    }
