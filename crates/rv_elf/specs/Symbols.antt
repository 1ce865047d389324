-- The value of a symbol, and the range of a signature, or the first error that applies.
use Rattle.std.specs.Prelude.{◌==◌, ◌-◌, ◌%◌, ℕ, Bool, true, false, not, ◌&&◌, ◌||◌, List, []}
use Rattle.std.specs.Prelude.{◌∷◌}
use Rattle.std.specs.Prelude.{◌++◌}
use Rattle.std.specs.Prelude.{length, nat_lt}
use Rattle.std.specs.Prelude.{Option, option_and_then, option_map, unwrap_or, Result, Ok, is_none}
use Rattle.std.specs.Option.{option_map_or}
use Rattle.rv_memory.specs.declared.map.Region.{Region}
use Rattle.rv_memory.specs.Regions.{is_in_one_region}
use Rattle.rv_elf.specs.declared.error.ImageError.{ImageError}
use Rattle.rv_elf.specs.declared.error.ImageError.TheVariants.{SectionTable, NoSymbols, SymbolTable}
use Rattle.rv_elf.specs.declared.error.ImageError.TheVariants.{StringTable, NoBegin, SignatureRange}
use Rattle.rv_elf.specs.declared.sections.Section.{Section}
use Rattle.rv_elf.specs.declared.symbols.Symbol.{Symbol}
use Rattle.rv_elf.specs.Rows.{ErrorRow, first_error_of, accepted}
use Rattle.rv_elf.specs.Sections.{has_bad_section_table, symbol_table_section, string_table_section, is_bad_symbol_table}
use Rattle.rv_elf.specs.Sections.{is_bad_string_table, section_bytes, symbol_named}

-- whether the string table of a symbol table is missing, has another type than SHT_STRTAB, or extends past the end of the file
abbrev pub has_bad_string_table : List ℕ → Section → Bool
has_bad_string_table file symbols =
    option_map_or (is_bad_string_table (length file)) (string_table_section file symbols) true

-- the errors of the file's symbol and string tables, in order, each with its condition; the errors of a symbol table apply only if there is
-- one
abbrev pub symbol_table_rows : List ℕ → List ErrorRow
symbol_table_rows file = (has_bad_section_table file, SectionTable)
    ∷ (is_none (symbol_table_section file), NoSymbols)
    ∷ (option_map_or (is_bad_symbol_table (length file)) (symbol_table_section file) false, SymbolTable)
    ∷ (option_map_or (has_bad_string_table file) (symbol_table_section file) false, StringTable)
    ∷ []

-- the first error that applies to the file's symbol and string tables, or `accepted` if none does
unfoldable pub symbol_tables_check : List ℕ → Result (Unit {0}) ImageError
symbol_tables_check file = first_error_of (symbol_table_rows file) accepted

-- the bytes of a symbol table and of its string table, or `None` if the string table does not exist
abbrev pub tables_of_section : List ℕ → Section → Option (List ℕ × List ℕ)
tables_of_section file symbols =
    option_map (λ strings. (section_bytes file symbols, section_bytes file strings))
    (string_table_section file symbols)

-- the bytes of the file's first symbol table and of its string table, or `None` if one of them does not exist
abbrev pub symbol_and_string_bytes : List ℕ → Option (List ℕ × List ℕ)
symbol_and_string_bytes file = option_and_then (tables_of_section file) (symbol_table_section file)

-- the first defined symbol with this name in the file's first symbol table, or `None` if there is none
abbrev pub symbol_of_name : List ℕ → List ℕ → Option Symbol
symbol_of_name file name = option_and_then (λ t. symbol_named t.0 t.1 name) (symbol_and_string_bytes file)

-- the errors of looking up a name in a file, in order, each with its condition
abbrev pub symbol_rows : List ℕ → List ℕ → List ErrorRow
symbol_rows file name = symbol_table_rows file ++ (is_none (symbol_of_name file name), NoBegin) ∷ []

-- the value of the symbol with this name, or the first error that applies; if none does, the symbol exists, so the default 0 is never
-- returned
unfoldable pub symbol_of : List ℕ → List ℕ → Result ℕ ImageError
symbol_of file name = first_error_of (symbol_rows file name)
    (Ok (unwrap_or (option_map (λ s. s.value) (symbol_of_name file name)) 0))

-- whether the words from `begin` up to `end` cannot be a signature: `begin` is above `end`, one of them is not a multiple of 4, or the
-- bytes are not in one region or make up more than 65,536 words
abbrev pub is_bad_signature_range : ℕ → ℕ → List Region → Bool
is_bad_signature_range begin end regions = nat_lt end begin || (not (begin % 4 == 0) || (not (end % 4 == 0)
    || (nat_lt begin end && (not (is_in_one_region regions begin (end - begin))
    || nat_lt 0x4_0000 (end - begin)))))

-- `accepted` if the words from `begin` up to `end` can be a signature in these regions, and otherwise the error `SignatureRange`
unfoldable pub signature_check : ℕ → ℕ → List Region → Result (Unit {0}) ImageError
signature_check begin end regions =
    first_error_of ((is_bad_signature_range begin end regions, SignatureRange) ∷ []) accepted
