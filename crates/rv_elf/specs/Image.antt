-- The image of a file's bytes, or the first error that applies. ELF32 of the System V ABI, chapters "Object Files" and "Program Loading";
-- the RISC-V machine number is from its ELF psABI.
use Rattle.std.specs.Prelude.{◌≡◌, ◌≤◌, ◌<◌, ◌==◌, ◌+◌, ◌*◌, ◌%◌, ℕ, Bool, not, ◌&&◌, ◌||◌, List}
use Rattle.std.specs.Prelude.{[], ◌∷◌, length, map, filter, Result, Ok, nat_lt}
use Rattle.std.specs.List.{list_any, range_with_len}
use Rattle.rv_isa.specs.declared.isa.Isa.{Isa}
use Rattle.rv_isa.specs.Extensions.{has_extension, RV32C}
use Rattle.rv_elf.specs.declared.error.ImageError.{ImageError}
use Rattle.rv_elf.specs.declared.error.ImageError.TheVariants.{ShortHeader, BadMagic, Not32Bit}
use Rattle.rv_elf.specs.declared.error.ImageError.TheVariants.{NotLittleEndian, BadVersion}
use Rattle.rv_elf.specs.declared.error.ImageError.TheVariants.{NotExecutable, NotRiscv}
use Rattle.rv_elf.specs.declared.error.ImageError.TheVariants.{ProgramTable, Dynamic, SegmentSizes}
use Rattle.rv_elf.specs.declared.error.ImageError.TheVariants.{SegmentFile, NoSegment, EntryOdd}
use Rattle.rv_elf.specs.declared.error.ImageError.TheVariants.{EntryAlign}
use Rattle.rv_elf.specs.declared.image.Segment.{Segment}
use Rattle.rv_elf.specs.declared.image.Image.{Image}
use Rattle.rv_elf.specs.declared.program_headers.ProgramHeader.{ProgramHeader}
use Rattle.rv_elf.specs.Fields.{byte_at, half_at, word_at}
use Rattle.rv_elf.specs.Rows.{ErrorRow, first_error_of}

-- ---- the fields of the ELF header ("ELF Header")

-- e_type: the type of the file
abbrev pub e_type : List ℕ → ℕ
e_type file = half_at file 16

-- e_machine: the architecture of the file
abbrev pub e_machine : List ℕ → ℕ
e_machine file = half_at file 18

-- e_version: the version of the format
abbrev pub e_version : List ℕ → ℕ
e_version file = word_at file 20

-- e_entry: the address of the first instruction
abbrev pub e_entry : List ℕ → ℕ
e_entry file = word_at file 24

-- e_phoff: the offset of the program header table
abbrev pub e_phoff : List ℕ → ℕ
e_phoff file = word_at file 28

-- e_phentsize: the size of a program header
abbrev pub e_phentsize : List ℕ → ℕ
e_phentsize file = half_at file 42

-- e_phnum: the number of program headers
abbrev pub e_phnum : List ℕ → ℕ
e_phnum file = half_at file 44

-- ---- the program header table ("Program Header"), and the fields of the program header at an offset `at`

-- p_type: the type of the program header at the offset `at`
abbrev pub p_type : List ℕ → ℕ → ℕ
p_type file at = word_at file at

-- p_offset: the offset of the segment's bytes in the file, in the program header at the offset `at`
abbrev pub p_offset : List ℕ → ℕ → ℕ
p_offset file at = word_at file (at + 4)

-- p_vaddr: the virtual address of the segment, in the program header at the offset `at`
abbrev pub p_vaddr : List ℕ → ℕ → ℕ
p_vaddr file at = word_at file (at + 8)

-- p_paddr: the physical address of the segment, in the program header at the offset `at`
abbrev pub p_paddr : List ℕ → ℕ → ℕ
p_paddr file at = word_at file (at + 12)

-- p_filesz: the number of the segment's bytes in the file, in the program header at the offset `at`
abbrev pub p_filesz : List ℕ → ℕ → ℕ
p_filesz file at = word_at file (at + 16)

-- p_memsz: the number of the segment's bytes in memory, in the program header at the offset `at`
abbrev pub p_memsz : List ℕ → ℕ → ℕ
p_memsz file at = word_at file (at + 20)

-- p_flags: the access rights of the segment, in the program header at the offset `at`
abbrev pub p_flags : List ℕ → ℕ → ℕ
p_flags file at = word_at file (at + 24)

-- the segment that the program header at the offset `at` describes
unfoldable pub segment_at : List ℕ → ℕ → Segment
segment_at file at = record {
  offset = p_offset file at;
  vaddr = p_vaddr file at;
  paddr = p_paddr file at;
  filesz = p_filesz file at;
  memsz = p_memsz file at;
  flags = p_flags file at;
}

-- the program header at the offset `at`
unfoldable pub program_header_at : List ℕ → ℕ → ProgramHeader
program_header_at file at = record { p_type = p_type file at; segment = segment_at file at }

-- the program header table: `e_phnum` program headers of 32 bytes, which begin at `e_phoff`
unfoldable pub program_header_table : List ℕ → List ProgramHeader
program_header_table file = map (λ k. program_header_at file (e_phoff file + 32 * k)) (range_with_len 0 (e_phnum file))

-- ---- when a file is refused

-- whether the file begins with 0x7f 'E' 'L' 'F'
abbrev pub has_magic : List ℕ → Bool
has_magic file = (byte_at file 0 == 0x7f) && ((byte_at file 1 == 0x45)
    && ((byte_at file 2 == 0x4c) && (byte_at file 3 == 0x46)))

-- whether the version in the identification or in `e_version` is not 1
abbrev pub has_bad_version : List ℕ → Bool
has_bad_version file = not (byte_at file 6 == 1) || not (e_version file == 1)

-- whether the program header table is invalid: it has more than 64 entries; or it has some, and they are not 32 bytes long, or the table
-- extends past the end of the file
abbrev pub has_bad_program_table : List ℕ → Bool
has_bad_program_table file = nat_lt 64 (e_phnum file) || (nat_lt 0 (e_phnum file)
    && (not (e_phentsize file == 32) || nat_lt (length file) (e_phoff file + 32 * e_phnum file)))

-- whether a program header is PT_DYNAMIC or PT_INTERP
abbrev pub is_dynamic : ProgramHeader → Bool
is_dynamic header = (header.p_type == 2) || (header.p_type == 3)

-- whether a program header is PT_LOAD
abbrev pub is_load : ProgramHeader → Bool
is_load header = header.p_type == 1

-- whether a program header is PT_LOAD and has more bytes in the file than in memory
abbrev pub has_bad_sizes : ProgramHeader → Bool
has_bad_sizes header = is_load header && nat_lt header.segment.memsz header.segment.filesz

-- whether a program header is PT_LOAD and has file bytes that extend past the end of a file of `n` bytes
abbrev pub is_segment_past_file : ℕ → ProgramHeader → Bool
is_segment_past_file n header = is_load header
    && (nat_lt 0 header.segment.filesz && nat_lt n (header.segment.offset + header.segment.filesz))

-- whether a program header is PT_LOAD and has bytes in memory
abbrev pub is_loaded_header : ProgramHeader → Bool
is_loaded_header header = is_load header && nat_lt 0 header.segment.memsz

-- the segments of the PT_LOAD program headers that have bytes in memory, in order
abbrev pub loaded_segments : List ProgramHeader → List Segment
loaded_segments headers = map (λ header. header.segment) (filter is_loaded_header headers)

-- the segments of the file's PT_LOAD program headers that have bytes in memory, in table order
unfoldable pub segments : List ℕ → List Segment
segments file = loaded_segments (program_header_table file)

-- ---- the image, or the first reason to refuse the file

-- the errors of an image, in order, each with its condition: errors of the ELF header, of the location of the program header table, of the
-- program headers (each condition is checked for all headers before the next one), and of the entry; the entry must be a multiple of 4 only
-- for instruction sets without compressed instructions
abbrev pub image_error_rows : Isa → List ℕ → List ErrorRow
image_error_rows isa file = (nat_lt (length file) 52, ShortHeader)
    ∷ (not (has_magic file), BadMagic)
    ∷ (not (byte_at file 4 == 1), Not32Bit)
    ∷ (not (byte_at file 5 == 1), NotLittleEndian)
    ∷ (has_bad_version file, BadVersion)
    ∷ (not (e_type file == 2), NotExecutable)
    ∷ (not (e_machine file == 243), NotRiscv)
    ∷ (has_bad_program_table file, ProgramTable)
    ∷ (list_any is_dynamic (program_header_table file), Dynamic)
    ∷ (list_any has_bad_sizes (program_header_table file), SegmentSizes)
    ∷ (list_any (is_segment_past_file (length file)) (program_header_table file), SegmentFile)
    ∷ (length (segments file) == 0, NoSegment)
    ∷ (not (e_entry file % 2 == 0), EntryOdd)
    ∷ (not (has_extension isa RV32C) && not (e_entry file % 4 == 0), EntryAlign)
    ∷ []

-- the entry and the loaded segments of a file, before any check
abbrev pub unchecked_image : List ℕ → Image
unchecked_image file = record { entry = e_entry file; segments = segments file }

-- the image of a file for a hart with this instruction set, or the first error that applies
unfoldable pub image_of : Isa → List ℕ → Result Image ImageError
image_of isa file = first_error_of (image_error_rows isa file) (Ok (unchecked_image file))

-- for some instruction set, the file is accepted and has this image
pub record IsImageOf (file : List ℕ) (image : Image) : Type 0 where
  pub isa : Isa
  pub is : image_of isa file ≡ Ok image

-- the file has the whole ELF header, and the whole program header table, with at most 64 program headers
pub record HasProgramHeaders (file : List ℕ) : Type 0 where
  pub header : 52 ≤ length file
  pub at_most_64 : e_phnum file ≤ 64
  pub in_file : 0 < e_phnum file → e_phoff file + 32 * e_phnum file ≤ length file
