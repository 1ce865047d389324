-- What each test of a name makes of it.
use Rattle.std.proofs.Common.{◌≡◌, ◌∙◌, ◌≤◌, ◌+◌, ◌*◌, ◌==◌, ℕ, Bool, true, false, not}
use Rattle.std.proofs.Common.{◌||◌, cond, ltb, List, Option}
use Rattle.std.proofs.Common.{Some, None, sym, ap, length, option_map, Result, Ok, Err, unwrap_or, is_none}
use Rattle.std.specs.Option.{option_map_or}
use Rattle.std.specs.Prelude.{option_and_then}
use Rattle.std.proofs.lemmas.Bool.{or_parts, ltb-false}
use Rattle.rv_elf.specs.declared.error.ImageError.{ImageError}
use Rattle.rv_elf.specs.declared.error.ImageError.TheVariants.{SectionTable, NoSymbols, SymbolTable, StringTable}
use Rattle.rv_elf.specs.declared.error.ImageError.TheVariants.{NoBegin}
use Rattle.rv_elf.specs.declared.image.Image.{Image}
use Rattle.rv_elf.specs.declared.sections.Section.{Section}
use Rattle.rv_elf.specs.declared.symbols.Symbol.{Symbol}
use Rattle.rv_elf.specs.Image.{image_of, IsImageOf}
use Rattle.rv_elf.specs.ImageChecks.{header_rows, image_after_header}
use Rattle.rv_elf.specs.Rows.{accepted}
use Rattle.rv_elf.specs.Sections.{e_shnum, e_shoff, e_shentsize, has_bad_section_table, symbol_table_section, string_table_section}
use Rattle.rv_elf.specs.Sections.{is_bad_symbol_table, is_bad_string_table, section_bytes, symbol_named, HasSectionHeaders}
use Rattle.rv_elf.specs.Symbols.{has_bad_string_table, symbol_table_rows, symbol_tables_check, tables_of_section, symbol_and_string_bytes, symbol_of_name}
use Rattle.rv_elf.specs.Symbols.{symbol_of}
use Rattle.rv_elf.proofs.FirstRow.{none_refused, none_refuses, refusal_stays}

-- the bytes of an image have a whole header
pub header_there : (file : List ℕ) (image : Image) → IsImageOf file image → 52 ≤ length file
unfolding image_of image_after_header
header_there file image e = ltb-false (length file) 52
    (or_parts (ltb (length file) 52) _ (none_refused (header_rows file) (image_after_header e.isa file) image e.is).0).0

pub sections_there : (file : List ℕ) → 52 ≤ length file → has_bad_section_table file ≡ false → HasSectionHeaders file
sections_there file h e =
    let count = or_parts (e_shnum file == 0)
    (not (e_shentsize file == 40) || ltb (length file) (e_shoff file + 40 * e_shnum file)) e in
    let size = or_parts (not (e_shentsize file == 40)) (ltb (length file) (e_shoff file + 40 * e_shnum file)) count.1 in
    record { header = h; room = ltb-false (length file) (e_shoff file + 40 * e_shnum file) size.1 }

passed : {X : Type 0} (b : Bool) (w : ImageError) (rest : Result X ImageError) → b ≡ false
    → cond b (Err w) rest ≡ rest
passed b w rest e = ap (λ x. cond x (Err w) rest) e

refused : {X : Type 0} (b : Bool) (w : ImageError) (rest : Result X ImageError) → b ≡ true
    → cond b (Err w) rest ≡ Err w
refused b w rest e = ap (λ x. cond x (Err w) rest) e

-- ---- the tables

module _ (file : List ℕ) where
  pub no_section_table : has_bad_section_table file ≡ true → symbol_tables_check file ≡ Err SectionTable
  unfolding symbol_tables_check
  no_section_table e = refused _ _ _ e

  module _ (sections : has_bad_section_table file ≡ false) where
    pub no_symbol_table : symbol_table_section file ≡ None → symbol_tables_check file ≡ Err NoSymbols
    unfolding symbol_tables_check
    no_symbol_table e = passed _ _ _ sections ∙ refused _ _ _ (ap is_none e)

    module _ (t : Section) (is : symbol_table_section file ≡ Some t) where
      at_table : (f : Section → Bool) (b : Bool) → f t ≡ b → option_map_or f (symbol_table_section file) false ≡ b
      at_table f b e = ap (λ o. option_map_or f o false) is ∙ e

      pub bad_symbol_table : is_bad_symbol_table (length file) t ≡ true → symbol_tables_check file ≡ Err SymbolTable
      unfolding symbol_tables_check
      bad_symbol_table e = passed _ _ _ sections ∙ passed _ _ _ (ap is_none is)
          ∙ refused _ _ _ (at_table (is_bad_symbol_table (length file)) true e)

      module _ (good : is_bad_symbol_table (length file) t ≡ false) where
        pub bad_string_table : has_bad_string_table file t ≡ true → symbol_tables_check file ≡ Err StringTable
        unfolding symbol_tables_check
        bad_string_table e =
            passed _ _ _ sections ∙ passed _ _ _ (ap is_none is)
            ∙ passed _ _ _ (at_table (is_bad_symbol_table (length file)) false good)
            ∙ refused _ _ _ (at_table (has_bad_string_table file) true e)

        pub no_string_table : string_table_section file t ≡ None → symbol_tables_check file ≡ Err StringTable
        no_string_table e = bad_string_table (ap (λ o. option_map_or (is_bad_string_table (length file)) o true) e)

        module _ (s : Section) (strings : string_table_section file t ≡ Some s) where
          pub past_string_table : is_bad_string_table (length file) s ≡ true → symbol_tables_check file ≡ Err StringTable
          past_string_table e = bad_string_table
              (ap (λ o. option_map_or (is_bad_string_table (length file)) o true) strings ∙ e)

          -- where none is refused, they are there
          pub tables_good : is_bad_string_table (length file) s ≡ false → symbol_tables_check file ≡ accepted
          unfolding symbol_tables_check
          tables_good e =
              passed _ _ _ sections ∙ passed _ _ _ (ap is_none is)
              ∙ passed _ _ _ (at_table (is_bad_symbol_table (length file)) false good)
              ∙ passed _ _ _
              (at_table (has_bad_string_table file) false
              (ap (λ o. option_map_or (is_bad_string_table (length file)) o true) strings ∙ e))

          pub tables_found : (table names : List ℕ) → table ≡ section_bytes file t → names ≡ section_bytes file s
              → symbol_and_string_bytes file ≡ Some (table, names)
          tables_found table names e f =
              let there : Option Section → Option (List ℕ × List ℕ) =
              λ o. option_map (λ x. (section_bytes file t, section_bytes file x)) o in
              ap (option_and_then (tables_of_section file)) is ∙ ap there strings ∙ sym (λ i. Some (e i, f i))

-- ---- a name in them

-- the last refusal, or the value of a symbol
abbrev pub value_or_none : Option Symbol → Result ℕ ImageError
value_or_none o = cond (is_none o) (Err NoBegin) (Ok (unwrap_or (option_map (λ y. y.value) o) 0))

by_value : (o : Option Symbol) (v : Option ℕ) → option_map (λ y. y.value) o ≡ v
    → value_or_none o ≡ cond (is_none v) (Err NoBegin) (Ok (unwrap_or v 0))
by_value None v e = ap (λ x. cond (is_none x) (Err NoBegin) (Ok (unwrap_or x 0))) e
by_value (Some y) v e = ap (λ x. cond (is_none x) (Err NoBegin) (Ok (unwrap_or x 0))) e

module _ (file name : List ℕ) where
  -- what refuses the tables refuses each name
  pub name_refused : (w : ImageError) → symbol_tables_check file ≡ Err w → symbol_of file name ≡ Err w
  unfolding symbol_tables_check symbol_of
  name_refused w e = refusal_stays (symbol_table_rows file) (value_or_none (symbol_of_name file name)) w e

  tables_passed : symbol_tables_check file ≡ accepted → symbol_of file name ≡ value_or_none (symbol_of_name file name)
  unfolding symbol_tables_check symbol_of
  tables_passed e = none_refuses (symbol_table_rows file) (value_or_none (symbol_of_name file name)) e

  -- and else the answer is what the search in them finds
  pub name_looked_up : (table strings : List ℕ) (v : Option ℕ) → symbol_tables_check file ≡ accepted
      → symbol_and_string_bytes file ≡ Some (table, strings)
      → v ≡ option_map (λ y. y.value) (symbol_named table strings name)
      → symbol_of file name ≡ cond (is_none v) (Err NoBegin) (Ok (unwrap_or v 0))
  name_looked_up table strings v e there found =
      tables_passed e
      ∙ ap (λ o. value_or_none (option_and_then (λ t. symbol_named t.0 t.1 name) o)) there
      ∙ by_value (symbol_named table strings name) v (sym found)
