-- The names of the errors of line tables.
use Rattle.std.specs.Prelude.{ℕ, List, codes}
use Rattle.rv_lines.specs.declared.error.LinesError.{LinesError}
use Rattle.rv_lines.specs.declared.error.LinesError.TheVariants as lines
use Rattle.rv_lines.specs.declared.error.UnitError.{UnitError}
use Rattle.rv_lines.specs.declared.error.UnitError.TheVariants as unit

-- the name of an error of a file's line tables
abbrev pub lines_error_name : LinesError → List ℕ
lines_error_name lines.SectionTable = codes "section-table"
lines_error_name lines.NoLines = codes "no-lines"
lines_error_name lines.SectionNames = codes "section-names"
lines_error_name lines.Compressed = codes "compressed"
lines_error_name lines.SectionFile = codes "section-file"

-- the name of an error of a unit
abbrev pub unit_error_name : UnitError → List ℕ
unit_error_name unit.UnitCutOff = codes "unit-cut-off"
unit_error_name unit.Dwarf64 = codes "dwarf-64"
unit_error_name unit.ReservedLength = codes "reserved-length"
unit_error_name unit.Version = codes "version"
unit_error_name unit.AddressSize = codes "address-size"
unit_error_name unit.HeaderCutOff = codes "header-cut-off"
unit_error_name unit.Operations = codes "operations"
unit_error_name unit.LineRange = codes "line-range"
unit_error_name unit.OpcodeBase = codes "opcode-base"
unit_error_name unit.OpcodeLengths = codes "opcode-lengths"
unit_error_name unit.EntryForm = codes "entry-form"
unit_error_name unit.EntryText = codes "entry-text"
unit_error_name unit.Number = codes "number"
unit_error_name unit.OperationCutOff = codes "operation-cut-off"
unit_error_name unit.OperationLength = codes "operation-length"
unit_error_name unit.FileNumber = codes "file-number"
unit_error_name unit.OpenSequence = codes "open-sequence"
