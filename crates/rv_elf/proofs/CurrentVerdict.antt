-- What is answered of an address, by what was found for it.
use Rattle.std.proofs.Common.{◌≡◌, ◌∙◌, ◌≤◌, ◌+◌, ◌-◌, ◌==◌, ◌&&◌, ◌||◌, ℕ, Bool, true, cond, List, Option, Some}
use Rattle.std.proofs.Common.{None, Err, sym, ap, arith}
use Rattle.std.proofs.Common.{leb, ltb, drop, option_map}
use Rattle.std.specs.Prelude.{option_and_then, is_ok}
use Rattle.std.proofs.lemmas.Bool.{and_parts, leb-true}
use Rattle.std.proofs.lemmas.Bool.Decides.{nat_tests}
use Rattle.rv_elf.specs.declared.error.ImageError.{ImageError}
use Rattle.rv_elf.specs.declared.image.Image.{Image}
use Rattle.rv_elf.specs.declared.image.Segment.{Segment}
use Rattle.rv_elf.specs.declared.symbol_search.LookupKind.{LookupKind}
use Rattle.rv_elf.specs.declared.symbol_search.LookupKind.TheVariants.{Code, Value}
use Rattle.rv_elf.specs.declared.symbols.Symbol.{Symbol}
use Rattle.rv_elf.specs.Rows.{accepted}
use Rattle.rv_elf.specs.Sections.{text_before_zero}
use Rattle.rv_elf.specs.Symbols.{symbol_tables_check, symbol_and_string_bytes}
use Rattle.rv_elf.specs.SymbolSearch.{may_be_code, is_function, is_object, has_section, has_usable_name, covers_address, are_in_one_segment}
use Rattle.rv_elf.specs.SymbolSearch.{is_candidate, candidates, nearest_candidate, name_and_offset, preferred_symbol, nearest_symbol}

-- what lies in a symbol or is its value is not below it
of_below : (addr value : ℕ) (sized within : Bool) → (value == addr) || (sized && (leb value addr && within)) ≡ true
    → value ≤ addr
of_below addr value sized within e = grind (arith, nat_tests)

-- a candidate is not above the address
pub candidate_below : (sought : LookupKind) (segments : List Segment) (strings : List ℕ) (addr : ℕ) (s : Symbol)
    → is_candidate sought segments strings addr s ≡ true → s.value ≤ addr
candidate_below Code segments strings addr s e =
    let named = has_usable_name strings s && are_in_one_segment segments s.value addr in
    let placed = (and_parts (may_be_code s) (has_section s && (leb s.value addr && named)) e).1 in
    let below = (and_parts (has_section s) (leb s.value addr && named) placed).1 in
    leb-true s.value addr (and_parts (leb s.value addr) named below).0
candidate_below Value segments strings addr s e =
    let placed = (and_parts (may_be_code s || is_object s) (has_section s && (covers_address addr s && has_usable_name strings s)) e).1 in
    let there = (and_parts (has_section s) (covers_address addr s && has_usable_name strings s) placed).1 in
    of_below addr s.value (is_function s || is_object s) (ltb addr (s.value + s.size))
    (and_parts (covers_address addr s) (has_usable_name strings s) there).0

module _ (sought : LookupKind) (image : Image) (file : List ℕ) (addr : ℕ) where
  -- nothing where the tables are refused
  pub no_tables : (w : ImageError) → symbol_tables_check file ≡ Err w → nearest_symbol sought image file addr ≡ None
  unfolding nearest_symbol
  no_tables w e = ap (λ r. cond (is_ok r) (option_and_then (λ t. preferred_symbol sought image.segments addr t.0 t.1)
      (symbol_and_string_bytes file)) None) e

  module _ (table strings : List ℕ) (good : symbol_tables_check file ≡ accepted)
      (there : symbol_and_string_bytes file ≡ Some (table, strings)) (segments : List Segment)
      (same : segments ≡ image.segments) (found : Option Symbol)
      (is : found ≡ nearest_candidate (candidates sought segments strings addr table)) where
    -- else the name and the place of what was found
    pub by_nearest : nearest_symbol sought image file addr ≡ option_and_then (name_and_offset strings addr) found
    unfolding nearest_symbol
    by_nearest =
        ap (λ r. cond (is_ok r) (option_and_then (λ t. preferred_symbol sought image.segments addr t.0 t.1)
        (symbol_and_string_bytes file)) None) good
        ∙ ap (option_and_then (λ t. preferred_symbol sought image.segments addr t.0 t.1)) there
        ∙ sym (ap (option_and_then (name_and_offset strings addr)) (is
        ∙ ap (λ ss. nearest_candidate (candidates sought ss strings addr table)) same))

    pub by_name : (s : Symbol) → found ≡ Some s → (bytes : List ℕ) → bytes ≡ drop s.name strings
        → (o : Option (List ℕ)) → text_before_zero bytes ≡ o
        → nearest_symbol sought image file addr ≡ option_map (λ name. (name, addr - s.value)) o
    by_name s one bytes tail o text =
        by_nearest ∙ ap (option_and_then (name_and_offset strings addr)) one
        ∙ ap (option_map (λ name. (name, addr - s.value))) (sym (ap text_before_zero tail) ∙ text)
