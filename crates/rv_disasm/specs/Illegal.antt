-- How an encoding that is not an instruction is described: by the mnemonic of its row, if a listing has one.
use Rattle.std.specs.Prelude.{ℕ, List, ◌++◌, codes, Option, Some, None}
use Rattle.rv_isa.specs.Words.{meaning32}
use Rattle.rv_isa.specs.declared.instruction.Instr.{Instr}
use Rattle.rv_isa.specs.declared.isa.Isa.TheVariants as set
use Rattle.rv_disasm.specs.Forms.{Form, form16, form32}
use Rattle.rv_disasm.specs.Unsimulated.{Row, unsimulated16, unsimulated32}

-- a mnemonic, followed in parentheses by its extension and the reason why it is not an instruction here
unfoldable pub name_and_reason : List ℕ → List ℕ → List ℕ → List ℕ
name_and_reason mnemonic extension reason =
    mnemonic ++ codes " (" ++ extension ++ codes ": " ++ reason ++ codes ")"

-- the description of an encoding that is not an instruction of RV32IMC, given its row in the listings of instructions that are not
-- simulated
abbrev pub unsimulated_text : Option Row → List ℕ
unsimulated_text None = codes "not an instruction"
unsimulated_text (Some r) = name_and_reason r.mnemonic r.extension (codes "not simulated")

-- ---- encodings that are not an instruction of a job's set

-- the description of an instruction of RV32IMC that the job's instruction set lacks, given its mnemonic and its extension
abbrev pub missing_extension_text : List ℕ → List ℕ → List ℕ
missing_extension_text mnemonic extension = name_and_reason mnemonic extension (codes "not in this job's \"isa\"")

-- the description of a word that is not an instruction of the job's set, given the instruction of RV32IMC that it decodes to; if there is
-- one, the set lacks M, since every set has the base
abbrev pub illegal_word_text : Option Instr → ℕ → List ℕ
illegal_word_text None word = unsimulated_text (unsimulated32 word)
illegal_word_text (Some i) word = missing_extension_text (form32 i.op).mnemonic (codes "M")

-- the description of a word that is not an instruction of the job's set
unfoldable pub illegal_text32 : ℕ → List ℕ
illegal_text32 word = illegal_word_text (meaning32 set.Imc word) word

-- the description of a halfword that is not an instruction of the job's set, given its form in RV32IMC; if it has one, the set lacks C
abbrev pub illegal_half_text : Option Form → ℕ → List ℕ
illegal_half_text None half = unsimulated_text (unsimulated16 half)
illegal_half_text (Some form) half = missing_extension_text form.mnemonic (codes "C")

-- the description of a halfword that is not an instruction of the job's set
unfoldable pub illegal_text16 : ℕ → List ℕ
illegal_text16 half = illegal_half_text (form16 half) half
