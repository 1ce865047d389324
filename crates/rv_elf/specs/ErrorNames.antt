-- The names of the errors of images.
use Rattle.std.specs.Prelude.{ℕ, List, codes}
use Rattle.rv_elf.specs.declared.error.ImageError.{ImageError}
use Rattle.rv_elf.specs.declared.error.ImageError.TheVariants as image

-- the name of an error in reports and messages
abbrev pub image_error_name : ImageError → List ℕ
image_error_name image.ShortHeader = codes "short-header"
image_error_name image.BadMagic = codes "bad-magic"
image_error_name image.Not32Bit = codes "not-32-bit"
image_error_name image.NotLittleEndian = codes "not-little-endian"
image_error_name image.BadVersion = codes "bad-version"
image_error_name image.NotExecutable = codes "not-executable"
image_error_name image.NotRiscv = codes "not-riscv"
image_error_name image.ProgramTable = codes "program-table"
image_error_name image.Dynamic = codes "dynamic"
image_error_name image.SegmentSizes = codes "segment-sizes"
image_error_name image.SegmentFile = codes "segment-file"
image_error_name image.NoSegment = codes "no-segment"
image_error_name image.EntryOdd = codes "entry-odd"
image_error_name image.EntryAlign = codes "entry-align"
image_error_name image.SegmentMap = codes "segment-map"
image_error_name image.SegmentOverlap = codes "segment-overlap"
image_error_name image.SectionTable = codes "section-table"
image_error_name image.NoSymbols = codes "no-symbols"
image_error_name image.SymbolTable = codes "symbol-table"
image_error_name image.StringTable = codes "string-table"
image_error_name image.NoBegin = codes "no-begin"
image_error_name image.NoEnd = codes "no-end"
image_error_name image.SignatureRange = codes "signature-range"
image_error_name image.OutOfMemory = codes "out-of-memory"
