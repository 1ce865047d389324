-- How an operand of an instruction is written (RISC-V Unprivileged ISA 20191213, chapter 25): a register by its name, an immediate in
-- decimal, an address as `offset(base)`.
use Rattle.std.specs.Prelude.{ℕ, List, [], ◌∷◌, ◌++◌, codes, slice_index_or, false, pos, ◌+ℤ◌, ℤ}
use Rattle.std.specs.Prelude.{◌/◌, ◌^◌, ◌==◌, if◌then◌else◌}
use Rattle.std.specs.Fmt.{digits, signed_decimal}
use Rattle.rv_isa.specs.Bits.{bit, field, wrap}
use Rattle.rv_disasm.specs.declared.form.Fetched.{Fetched}
use Rattle.rv_disasm.specs.declared.form.Operand.{Operand}
use Rattle.rv_disasm.specs.declared.form.Operand.TheVariants as operand

-- the ABI names of the registers x0 to x31, in order
abbrev pub register_names : List (List ℕ)
register_names =
    codes "zero" ∷ codes "ra" ∷ codes "sp" ∷ codes "gp" ∷ codes "tp" ∷ codes "t0" ∷ codes "t1"
    ∷ codes "t2" ∷ codes "s0" ∷ codes "s1" ∷ codes "a0" ∷ codes "a1" ∷ codes "a2" ∷ codes "a3"
    ∷ codes "a4" ∷ codes "a5" ∷ codes "a6" ∷ codes "a7" ∷ codes "s2" ∷ codes "s3" ∷ codes "s4"
    ∷ codes "s5" ∷ codes "s6" ∷ codes "s7" ∷ codes "s8" ∷ codes "s9" ∷ codes "s10" ∷ codes "s11"
    ∷ codes "t3" ∷ codes "t4" ∷ codes "t5" ∷ codes "t6" ∷ []

-- the ABI name of the register with this number, from 0 to 31
abbrev pub register_name : ℕ → List ℕ
register_name number = slice_index_or register_names number []

-- the letters of a predecessor or successor set of FENCE (section 2.7): one for each set bit, from bit 3 (`i`) to bit 0 (`w`), or `0` if no
-- bit is set
abbrev pub fence_set_name : ℕ → List ℕ
fence_set_name bits = if bits == 0 then codes "0" else
    (if bit bits 3 == 1 then codes "i" else []) ++ (if bit bits 2 == 1 then codes "o" else [])
    ++ (if bit bits 1 == 1 then codes "r" else []) ++ (if bit bits 0 == 1 then codes "w" else [])

-- a number as `0x` and its lower-case hexadecimal digits, without leading zeros
abbrev pub prefixed_hexadecimal : ℕ → List ℕ
prefixed_hexadecimal number = codes "0x" ++ digits 16 false number

-- an address as `offset(base)`, with the signed offset in decimal and the ABI name of the base register
unfoldable pub offset_and_base : ℤ → ℕ → List ℕ
offset_and_base offset base = signed_decimal offset ++ codes "(" ++ register_name base ++ codes ")"

-- the text of an operand of a fetched instruction
unfoldable pub operand_text : Operand → Fetched → List ℕ
operand_text operand.Rd f = register_name f.instr.rd
operand_text operand.Rs1 f = register_name f.instr.rs1
operand_text operand.Rs2 f = register_name f.instr.rs2
operand_text operand.Imm f = signed_decimal f.instr.imm
operand_text operand.Address f = offset_and_base f.instr.imm f.instr.rs1
operand_text operand.Upper f = prefixed_hexadecimal (wrap f.instr.imm / 2 ^ 12)
operand_text operand.Target f = prefixed_hexadecimal (wrap (pos f.pc +ℤ f.instr.imm))
operand_text operand.Predecessors f = fence_set_name (field f.code 27 24)
operand_text operand.Successors f = fence_set_name (field f.code 23 20)
