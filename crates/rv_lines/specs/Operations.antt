-- The instructions of a line number program (DWARF 5, section 6.2.5), which are called operations here.
use Rattle.std.specs.Prelude.{◌==◌, ◌-◌, ℕ, zero, suc, List, [], ◌∷◌, slice_index, nat_le, Option, Some, None, Result, Ok, Err, if◌then◌else◌}
use Rattle.rv_lines.specs.declared.error.UnitError.{UnitError}
use Rattle.rv_lines.specs.declared.error.UnitError.TheVariants.{OperationCutOff, OperationLength}
use Rattle.rv_lines.specs.declared.operations.Operation.{Operation}
use Rattle.rv_lines.specs.declared.operations.Operation.TheVariants as operation
use Rattle.rv_lines.specs.Reading.{◌>>=◌, Read, byte_at, fixed_at, skip_at}
use Rattle.rv_lines.specs.Numbers.{number_at, signed_at, skip_numbers}

-- an operation with the operand that was read, and the bytes after it; or the error
abbrev pub with_operand : (ℕ → Operation) → Read ℕ → Read Operation
with_operand operation read = read >>= λ operand. Ok (operation operand.0, operand.1)

-- the operation `Skipped`, and the bytes after its operands; or the error of reading them
abbrev pub skip_operands : Result (List ℕ) UnitError → Read Operation
skip_operands read = read >>= λ rest. Ok (operation.Skipped, rest)

-- the operation of a standard opcode (section 6.2.5.2); an opcode that changes no register that is needed here is skipped, with as many
-- operands as `lengths` says
unfoldable pub standard_at : List ℕ → ℕ → List ℕ → Read Operation
standard_at lengths code bytes =
    if code == 1 then Ok (operation.Copy, bytes)
    else if code == 2 then with_operand operation.AdvancePc (number_at OperationCutOff bytes)
    else if code == 3 then with_operand operation.AdvanceLine (signed_at OperationCutOff bytes)
    else if code == 4 then with_operand operation.SetFile (number_at OperationCutOff bytes)
    else if code == 6 then Ok (operation.NegateStmt, bytes)
    else if code == 8 then Ok (operation.ConstAddPc, bytes)
    else if code == 9 then with_operand operation.FixedAdvancePc (fixed_at OperationCutOff 2 bytes)
    else skip_operands (skip_numbers OperationCutOff (slice_index lengths (code - 1)) bytes)

-- the operation of an extended opcode of this length, which counts its code and its operands (section 6.2.5.3); the length must be 1 for
-- DW_LNE_end_sequence and 5 for DW_LNE_set_address, and any other opcode is skipped
unfoldable pub extended_of_length : ℕ → List ℕ → Read Operation
extended_of_length size bytes = byte_at OperationCutOff bytes >>= λ code.
    if code.0 == 1 then (if size == 1 then Ok (operation.EndSequence, code.1) else Err OperationLength)
    else if code.0 == 2 then (if size == 5 then with_operand operation.SetAddress (fixed_at OperationCutOff 4 code.1) else Err OperationLength)
    else skip_operands (skip_at OperationCutOff (size - 1) code.1)

-- the operation of an extended opcode, beginning with its length, which must not be 0
unfoldable pub extended_at : List ℕ → Read Operation
extended_at bytes = number_at OperationCutOff bytes >>= λ size.
    if size.0 == 0 then Err OperationLength else extended_of_length size.0 size.1

-- one operation: a special one if its code is `opcode_base` or above, an extended one if it is 0, and otherwise a standard one; or the
-- error of reading it
unfoldable pub operation_at : ℕ → List ℕ → List ℕ → Read Operation
operation_at opcode_base lengths bytes = byte_at OperationCutOff bytes >>= λ code.
    if nat_le opcode_base code.0 then Ok (operation.Special (code.0 - opcode_base), code.1)
    else if code.0 == 0 then extended_at code.1 else standard_at lengths code.0 code.1

-- the operations of a program, and the error of the next one if it cannot be read
abbrev pub Program : Type 0
Program = List Operation × Option UnitError

-- the program with the operation `first` in front
abbrev pub after_operation : Operation → Program → Program
after_operation first others = (first ∷ others.0, others.1)

-- the operation that was read and those that `others` reads after it, or the error
abbrev pub prepend_operation : (List ℕ → Program) → Read Operation → Program
prepend_operation others (Ok first) = after_operation first.0 (others first.1)
prepend_operation others (Err error) = ([], Some error)

-- the first `most` operations of a program, up to one that cannot be read; each has at least one byte, so there are no more operations than
-- bytes
unfoldable pub program : ℕ → ℕ → List ℕ → List ℕ → Program
program zero opcode_base lengths bytes = ([], None)
program (suc most) opcode_base lengths [] = ([], None)
program (suc most) opcode_base lengths (b ∷ bytes) =
    prepend_operation (program most opcode_base lengths) (operation_at opcode_base lengths (b ∷ bytes))
