use Rattle.std.proofs.Common.{refl}
use Rattle.rv_isa.specs.declared.isa.Isa.TheVariants as set
use Rattle.rv_isa.proofs.ByOpcode.{at_register}
use Rattle.rv_isa.proofs.assemble.and.Goals as goal

pub returns : goal.returns
returns c =
    rw (
      at_register set.Imc c.r_word.result c.r_word.ensures.opcode,
      c.r_word.ensures.funct3,
      c.r_word.ensures.funct7,
      c.r_word.ensures.rd,
      c.r_word.ensures.rs1,
      c.r_word.ensures.rs2,
    ) refl
