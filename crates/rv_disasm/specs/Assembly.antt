-- The assembly text of an encoding that was fetched at an address: the mnemonic of its row, and its operands at that address.
use Rattle.std.specs.Prelude.{ℕ, List, [], ◌++◌, codes, Option, Some, None}
use Rattle.rv_isa.specs.Words.{meaning32}
use Rattle.rv_isa.specs.Halfwords.{meaning16}
use Rattle.rv_isa.specs.declared.instruction.Instr.{Instr}
use Rattle.rv_isa.specs.declared.isa.Isa.TheVariants as set
use Rattle.rv_disasm.specs.declared.form.Fetched.{Fetched}
use Rattle.rv_disasm.specs.declared.form.Operands.{Operands}
use Rattle.rv_disasm.specs.declared.form.Operands.TheVariants.{Absent, One, Two, Three}
use Rattle.rv_disasm.specs.Operands.{operand_text}
use Rattle.rv_disasm.specs.Forms.{Form, form16, form32}
use Rattle.rv_disasm.specs.Illegal.{unsimulated_text}
use Rattle.rv_disasm.specs.Unsimulated.{unsimulated16, unsimulated32}

-- the text of the operands of a fetched instruction: a space, then the operands separated by `, `; empty if it has no operands
unfoldable pub operands_text : Operands → Fetched → List ℕ
operands_text Absent f = []
operands_text (One a) f = codes " " ++ operand_text a f
operands_text (Two a b) f = codes " " ++ operand_text a f ++ codes ", " ++ operand_text b f
operands_text (Three a b c) f =
    codes " " ++ operand_text a f ++ codes ", " ++ operand_text b f ++ codes ", "
    ++ operand_text c f

-- the text of a fetched instruction: the mnemonic of its form, then its operands
unfoldable pub form_text : Form → Fetched → List ℕ
form_text form f = form.mnemonic ++ operands_text form.operands f

-- this instruction, with its encoding and the address from which it was fetched
abbrev pub fetched_instr : Instr → ℕ → ℕ → Fetched
fetched_instr i code pc = record { instr = i; code = code; pc = pc }

-- the assembly text of a word fetched at an address, given the instruction that it decodes to; if there is none, its description as an
-- encoding that is not simulated
abbrev pub decoded_word_text : Option Instr → ℕ → ℕ → List ℕ
decoded_word_text None word pc = unsimulated_text (unsimulated32 word)
decoded_word_text (Some i) word pc = form_text (form32 i.op) (fetched_instr i word pc)

-- the assembly text of a word fetched at `pc`, decoded as an instruction of RV32IMC
unfoldable pub assembly32 : ℕ → ℕ → List ℕ
assembly32 word pc = decoded_word_text (meaning32 set.Imc word) word pc

-- the assembly text of a halfword fetched at an address, given its form and the instruction that it decodes to; if either is missing, its
-- description as an encoding that is not simulated
abbrev pub decoded_half_text : Option Form → Option Instr → ℕ → ℕ → List ℕ
decoded_half_text None i half pc = unsimulated_text (unsimulated16 half)
decoded_half_text (Some form) None half pc = unsimulated_text (unsimulated16 half)
decoded_half_text (Some form) (Some i) half pc = form_text form (fetched_instr i half pc)

-- the assembly text of a halfword fetched at `pc`, decoded as an instruction of RV32IMC
unfoldable pub assembly16 : ℕ → ℕ → List ℕ
assembly16 half pc = decoded_half_text (form16 half) (meaning16 set.Imc half) half pc
