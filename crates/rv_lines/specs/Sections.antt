-- The sections of line tables, found by their names (System V ABI, "Sections", "String Table"; compressed sections: SHF_COMPRESSED).
use Rattle.std.specs.Prelude.{◌≡◌, ◌≤◌, ◌<◌, ◌==◌, ◌||◌, ◌&&◌, ◌+◌, ◌*◌, ℕ, Bool, not, true, false, List, [], length, map, take, drop, nat_lt, Option, Result, Ok, Err, if◌then◌else◌, find, codes, bit_and}
use Rattle.std.specs.List.{range_with_len}
use Rattle.std.specs.Option.{option_map_or}
use Rattle.rv_elf.specs.Fields.{half_at, word_at}
use Rattle.rv_elf.specs.Sections.{e_shoff, e_shnum, e_shentsize, begins_with_name}
use Rattle.rv_lines.specs.declared.error.LinesError.{LinesError}
use Rattle.rv_lines.specs.declared.error.LinesError.TheVariants.{SectionTable, NoLines, SectionNames, Compressed, SectionFile}
use Rattle.rv_lines.specs.declared.sections.Section.{Section}
use Rattle.rv_lines.specs.Entries.{Strings}

-- e_shstrndx: the index of the section that holds the names of the sections
abbrev pub e_shstrndx : List ℕ → ℕ
e_shstrndx file = half_at file 50

-- the section header at an offset of the file
unfoldable pub header_at : List ℕ → ℕ → Section
header_at file at = record {
  name = word_at file at;
  kind = word_at file (at + 4);
  flags = word_at file (at + 8);
  offset = word_at file (at + 16);
  size = word_at file (at + 20);
}

-- a section as it is in the file: a section of type SHT_NOBITS has no bytes there
abbrev pub in_file : Section → Section
in_file s = if s.kind == 8 then record s { offset = 0; size = 0 } else s

-- the section whose header is at an offset of the file
abbrev pub section_at : List ℕ → ℕ → Section
section_at file at = in_file (header_at file at)

-- the section whose header is at an index of the table
abbrev pub section_of_index : List ℕ → ℕ → Section
section_of_index file index = section_at file (e_shoff file + 40 * index)

-- the sections of the file
abbrev pub sections : List ℕ → List Section
sections file = map (section_of_index file) (range_with_len 0 (e_shnum file))

-- whether the file has section headers that are not 40 bytes long, or that extend past its end
abbrev pub has_bad_table : List ℕ → Bool
has_bad_table file = not (e_shnum file == 0)
    && (not (e_shentsize file == 40) || nat_lt (length file) (e_shoff file + 40 * e_shnum file))

-- whether a section extends past the end of a file of `n` bytes
abbrev pub is_past_file : ℕ → Section → Bool
is_past_file n s = nat_lt n (s.offset + s.size)

-- the bytes of a section
abbrev pub bytes_of : List ℕ → Section → List ℕ
bytes_of file s = take s.size (drop s.offset file)

-- whether a section is not a string table (SHT_STRTAB), or extends past the end of the file
abbrev pub is_invalid_name_table : List ℕ → Section → Bool
is_invalid_name_table file s = not (s.kind == 3) || is_past_file (length file) s

-- whether there is no section with the index `e_shstrndx`, or it is not a string table within the file
abbrev pub has_bad_names : List ℕ → Bool
has_bad_names file = not (nat_lt (e_shstrndx file) (e_shnum file)) || is_invalid_name_table file (section_of_index file (e_shstrndx file))

-- the string table with the names of the sections
abbrev pub names_of : List ℕ → List ℕ
names_of file = bytes_of file (section_of_index file (e_shstrndx file))

-- whether a section has this name
abbrev pub is_named : List ℕ → List ℕ → Section → Bool
is_named names text s = begins_with_name (drop s.name names) text

-- whether a section has one of the two names: the plain one, or the one that `-gz=zlib-gnu` gives it
abbrev pub is_named_either : List ℕ → List ℕ → List ℕ → Section → Bool
is_named_either names plain gnu s = is_named names plain s || is_named names gnu s

-- the first section with one of the two names, or `None` if there is none
unfoldable pub named : List ℕ → List ℕ → List ℕ → Option Section
named file plain gnu = find (is_named_either (names_of file) plain gnu) (sections file)

-- whether a section is compressed: it has SHF_COMPRESSED, or the name of a compressed one
abbrev pub is_compressed : List ℕ → List ℕ → Section → Bool
is_compressed names gnu s = not (bit_and s.flags 0x800 == 0) || is_named names gnu s

-- the bytes of a section, or why they cannot be read
abbrev pub readable_bytes : List ℕ → List ℕ → Section → Result (List ℕ) LinesError
readable_bytes file gnu s = if is_compressed (names_of file) gnu s then Err Compressed
    else if is_past_file (length file) s then Err SectionFile else Ok (bytes_of file s)

-- the bytes of the first section with one of the two names, no bytes if there is none, or why they cannot be read
unfoldable pub bytes_named : List ℕ → List ℕ → List ℕ → Result (List ℕ) LinesError
bytes_named file plain gnu = option_map_or (readable_bytes file gnu) (named file plain gnu) (Ok [])

-- `.debug_line`, and the string sections
pub record Tables : Type 0 where
  pub lines : List ℕ
  pub strings : Strings

infixl 10 ◌then◌
-- what `f` returns for the value, or the error if there is one
abbrev pub ◌then◌ : {A B : Type 0} → Result A LinesError → (A → Result B LinesError) → Result B LinesError
(Ok x) then f = f x
(Err e) then f = Err e

-- `.debug_line` and the string sections, or the error of the first of them that cannot be read
unfoldable pub tables_of : List ℕ → Result Tables LinesError
tables_of file = bytes_named file (codes ".debug_line") (codes ".zdebug_line") then λ lines.
    (bytes_named file (codes ".debug_line_str") (codes ".zdebug_line_str") then λ line_str.
    (bytes_named file (codes ".debug_str") (codes ".zdebug_str") then λ str.
    Ok (record { lines = lines; strings = record { line_str = line_str; str = str } })))

-- whether the file has no `.debug_line`, or an empty one
abbrev pub has_no_lines : List ℕ → Bool
has_no_lines file = option_map_or (λ s. s.size == 0) (named file (codes ".debug_line") (codes ".zdebug_line")) true

-- the line tables of a file, or the first error that applies
unfoldable pub line_tables : List ℕ → Result Tables LinesError
line_tables file = if has_bad_table file then Err SectionTable
    else if e_shnum file == 0 then Err NoLines
    else if has_bad_names file then Err SectionNames
    else if has_no_lines file then Err NoLines
    else tables_of file

-- the file has the whole ELF header and the whole section header table
pub record HasTable (file : List ℕ) : Type 0 where
  pub header : 52 ≤ length file
  pub room : e_shoff file + 40 * e_shnum file ≤ length file

-- the file has a string table with the names of its sections
pub record HasNames (file : List ℕ) : Type 0 where
  pub table : HasTable file
  pub index : e_shstrndx file < e_shnum file
  pub within : is_past_file (length file) (section_of_index file (e_shstrndx file)) ≡ false
