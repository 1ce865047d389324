-- The text of a trace: the address where the run ended, the registers there, and a line for each instruction.
use Rattle.std.specs.Prelude.{◌==◌, ◌+◌, ◌-◌, ℕ, Bool, true, false, List, [], ◌∷◌, ◌++◌, codes, drop}
use Rattle.std.specs.Prelude.{if◌then◌else◌, length, replicate, Option, Some, None}
use Rattle.std.specs.List.{flat_map}
use Rattle.rv_disasm.specs.Assembly.{assembly16, assembly32}
use Rattle.rv_disasm.specs.Illegal.{illegal_text16, illegal_text32}
use Rattle.rv_disasm.specs.Operands.{register_name}
use Rattle.rv_rows.specs.declared_image.Image.{Image}
use Rattle.rv_rows.specs.SymbolSearch.{symbol_at, symbol_of_value}
use Rattle.rv_text.specs.Symbol.{symbol_in_brackets, symbol_text}
use Rattle.rv_machine.specs.declared.ending.FaultKind.{FaultKind}
use Rattle.rv_machine.specs.declared.ending.FaultKind.TheVariants as fault
use Rattle.rv_machine.specs.Faults.{fault_name}
use Rattle.rv_machine.specs.declared_access.Width.{Width}
use Rattle.rv_machine.specs.declared_access.Width.TheVariants as width
use Rattle.rv_rows.specs.declared_row.RowEnd.{RowEnd}
use Rattle.rv_rows.specs.declared_row.RowEnd.TheVariants as ending
use Rattle.rv_rows.specs.Report.{line, refusal_name}
use Rattle.rv_text.specs.Numbers.{exit_code_text, word_digits}
use Rattle.rv_trace.specs.declared.code.Code.{Code}
use Rattle.rv_trace.specs.declared.code.Code.TheVariants.{Half, Word}
use Rattle.rv_trace.specs.declared.step.TracedStep.{TracedStep}
use Rattle.rv_trace.specs.declared.step.WriteEffect.{WriteEffect}
use Rattle.rv_trace.specs.declared.step.WriteEffect.TheVariants as write
use Rattle.rv_trace.specs.declared.trace.Trace.{Trace}

-- ---- columns

-- the text, followed by spaces up to `width` characters
unfoldable pub padded_text : ℕ → List ℕ → List ℕ
padded_text width text = text ++ replicate (width - length text) 32

-- the separator of two columns
abbrev pub gap : List ℕ
gap = codes "  "

-- the indentation of each line
abbrev pub margin : List ℕ
margin = codes "     "

-- the name of a symbol and the offset from it; an empty text if there is no symbol
abbrev pub symbol_or_empty : Option (List ℕ × ℕ) → List ℕ
symbol_or_empty None = []
symbol_or_empty (Some symbol) = symbol_text symbol

-- ---- an instruction

-- an encoding as hexadecimal digits: four for a halfword, eight for a word
unfoldable pub code_text : Code → List ℕ
code_text (Half half) = drop 4 (word_digits half)
code_text (Word word) = word_digits word

-- the assembly text of an encoding at `pc`
unfoldable pub assembly : ℕ → Code → List ℕ
assembly pc (Half half) = assembly16 half pc
assembly pc (Word word) = assembly32 word pc

-- a stored value as hexadecimal digits, two for each byte
unfoldable pub stored_value_text : Width → ℕ → List ℕ
stored_value_text width.Byte value = drop 6 (word_digits value)
stored_value_text width.Half value = drop 4 (word_digits value)
stored_value_text width.Word value = word_digits value

-- the text `NAME <- VALUE` for a register and its new value
abbrev pub register_text : ℕ → ℕ → List ℕ
register_text number value = register_name number ++ codes " <- " ++ word_digits value

-- the text `NAME <- VALUE ` for a register and its loaded value; empty for a load into x0
abbrev pub loaded_text : ℕ → ℕ → List ℕ
loaded_text number value = if number == 0 then [] else register_text number value ++ codes " "

-- the name of a symbol and the offset from it, followed by a space; empty if there is no symbol
abbrev pub symbol_and_space : Option (List ℕ × ℕ) → List ℕ
symbol_and_space None = []
symbol_and_space (Some symbol) = symbol_text symbol ++ codes " "

-- the address of a load or a store, preceded by its symbol if it has one
abbrev pub address_text : Image → List ℕ → ℕ → List ℕ
address_text image file address =
    symbol_and_space (symbol_of_value image file address) ++ word_digits address

-- the text that says what an instruction wrote; empty if it wrote nothing
unfoldable pub write_effect_text : Image → List ℕ → WriteEffect → List ℕ
write_effect_text image file write.Nothing = []
write_effect_text image file (write.Register number value) = register_text number value
write_effect_text image file (write.Loaded number value address) =
    loaded_text number value ++ codes "from " ++ address_text image file address
write_effect_text image file (write.Stored address width value) =
    address_text image file address ++ codes " <- " ++ stored_value_text width value

-- the columns of the assembly text and of `effect_text`, the text about the effect; the second column is left out if `effect_text` is empty
abbrev pub text_columns : List ℕ → List ℕ → List ℕ
text_columns text effect_text = if length effect_text == 0 then text else padded_text 24 text ++ gap ++ effect_text

-- the encoding, its assembly text, and `effect_text`, the text about its effect, in columns; only `effect_text` if there is no encoding
unfoldable pub code_columns : Option Code → List ℕ → List ℕ → List ℕ
code_columns None text effect_text = effect_text
code_columns (Some code) text effect_text = padded_text 8 (code_text code) ++ gap ++ text_columns text effect_text

-- the line of the instruction at `pc`, with its symbol, its encoding, its assembly text, and `effect_text`, the text about its effect
unfoldable pub instruction_line :
    Option (List ℕ × ℕ) → ℕ → Option Code → List ℕ → List ℕ → List ℕ
instruction_line symbol pc code text effect_text =
    line (margin ++ word_digits pc ++ gap ++ padded_text 20 (symbol_or_empty symbol) ++ gap
    ++ code_columns code text effect_text)

-- the assembly text of an encoding at `pc`, or an empty text if there is none
abbrev pub assembly_or_empty : ℕ → Option Code → List ℕ
assembly_or_empty pc None = []
assembly_or_empty pc (Some code) = assembly pc code

-- the line of a completed instruction
unfoldable pub step_line : Image → List ℕ → TracedStep → List ℕ
step_line image file step =
    instruction_line (symbol_at image file step.pc) step.pc step.code
    (assembly_or_empty step.pc step.code) (write_effect_text image file step.write)

-- ---- the end

-- the value of a fault of this kind, with the words before it: ` at ` before an address, `, value ` before another value; illegal
-- instructions and breakpoints have no such text
unfoldable pub fault_value_text : FaultKind → ℕ → List ℕ
fault_value_text fault.Illegal value = []
fault_value_text fault.Breakpoint value = []
fault_value_text fault.UnknownCall value = codes ", value " ++ word_digits value
fault_value_text fault.ConsoleFull value = codes ", value " ++ word_digits value
fault_value_text _ value = codes " at " ++ word_digits value

-- the text that says how a run ended, for the line of the instruction at the end
unfoldable pub end_reason : RowEnd → List ℕ
end_reason (ending.Exit code) = codes "exit " ++ exit_code_text code
end_reason (ending.Fault kind pc value) = fault_name kind ++ fault_value_text kind value
end_reason ending.Budget = codes "not run: the budget is used up"
end_reason (ending.Refused refusal) = refusal_name refusal

-- whether a run ended with an illegal instruction: the job's instruction set has no instruction for the encoding
abbrev pub is_illegal_end : RowEnd → Bool
is_illegal_end (ending.Fault fault.Illegal pc value) = true
is_illegal_end _ = false

-- the description of an encoding that is not an instruction of the job's set
unfoldable pub illegal_text : Code → List ℕ
illegal_text (Half half) = illegal_text16 half
illegal_text (Word word) = illegal_text32 word

-- the assembly text of the encoding at the end of a run, or its description if it is not an instruction of the job's set; empty if there is
-- no encoding
abbrev pub end_assembly : RowEnd → ℕ → Option Code → List ℕ
end_assembly end pc None = []
end_assembly end pc (Some code) = if is_illegal_end end then illegal_text code else assembly pc code

-- the line of the instruction at the end of a run
unfoldable pub end_instruction_line : Image → List ℕ → ℕ → Option Code → RowEnd → List ℕ
end_instruction_line image file pc code end =
    instruction_line (symbol_at image file pc) pc code (end_assembly end pc code) (end_reason end)

-- the line that says where a run ended
unfoldable pub ended_at_line : Image → List ℕ → ℕ → List ℕ
ended_at_line image file pc =
    line (codes "     ended at " ++ word_digits pc ++ symbol_in_brackets (symbol_at image file pc))

-- ---- the registers

-- two spaces and the symbol that a value points to; empty if there is no symbol
abbrev pub symbol_after_value : Option (List ℕ × ℕ) → List ℕ
symbol_after_value None = []
symbol_after_value (Some symbol) = gap ++ symbol_text symbol

-- the line of the register `number`, which has this value
unfoldable pub register_line : Image → List ℕ → ℕ → ℕ → List ℕ
register_line image file number value =
    line (margin ++ padded_text 4 (register_name number) ++ gap ++ word_digits value
    ++ symbol_after_value (symbol_of_value image file value))

-- the lines of the registers `number`, `number` + 1 and so on, which have these values
unfoldable pub register_lines : Image → List ℕ → ℕ → List ℕ → List ℕ
register_lines image file number [] = []
register_lines image file number (value ∷ values) =
    register_line image file number value ++ register_lines image file (number + 1) values

-- ---- the whole text

-- the text of a trace, given how its run ended
unfoldable pub trace_text : Image → List ℕ → Trace → RowEnd → List ℕ
trace_text image file trace end =
    ended_at_line image file trace.pc ++ register_lines image file 0 trace.registers
    ++ flat_map (step_line image file) trace.steps ++ end_instruction_line image file trace.pc trace.code end
