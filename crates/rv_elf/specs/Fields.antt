-- The fields of a file: little-endian numbers at given offsets (System V ABI, "Object Files", ELFDATA2LSB).
use Rattle.std.specs.Prelude.{ℕ, List, drop, slice_index}
use Rattle.byteorder.specs.Endian.{little_number}

-- the byte at an offset of a file
abbrev pub byte_at : List ℕ → ℕ → ℕ
byte_at file at = slice_index file at

-- the little-endian two-byte number at an offset of a file
unfoldable pub half_at : List ℕ → ℕ → ℕ
half_at file at = little_number 2 (drop at file)

-- the little-endian four-byte number at an offset of a file
unfoldable pub word_at : List ℕ → ℕ → ℕ
word_at file at = little_number 4 (drop at file)
