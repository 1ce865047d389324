-- Which extensions an instruction set includes. A set is named by its letters (RISC-V Unprivileged ISA 20191213, chapter 27): I is the
-- base, included in every set; M is multiplication and division; C is the 16-bit instructions.
use Rattle.std.specs.Prelude.{Bool, true, false}
use Rattle.rv_isa.specs.declared.isa.Isa.{Isa}
use Rattle.rv_isa.specs.declared.isa.Isa.TheVariants as set

-- the part of the manual that specifies an instruction: the base (chapter 2), Zifencei (chapter 3), M (chapter 7) or C (chapter 16)
pub data Extension : Type 0 where
  RV32I : Extension
  Zifencei : Extension
  RV32M : Extension
  RV32C : Extension

-- whether an instruction set includes M, multiplication and division
abbrev pub has_m : Isa → Bool
has_m set.I = false
has_m set.Im = true
has_m set.Ic = false
has_m set.Imc = true

-- whether an instruction set includes C, 16-bit instructions
abbrev pub has_c : Isa → Bool
has_c set.I = false
has_c set.Im = false
has_c set.Ic = true
has_c set.Imc = true

-- whether an instruction set includes an extension; every set includes the base and Zifencei
abbrev pub has_extension : Isa → Extension → Bool
has_extension isa RV32I = true
has_extension isa Zifencei = true
has_extension isa RV32M = has_m isa
has_extension isa RV32C = has_c isa
