use Rattle.std.proofs.Common.{refl}
use Rattle.rv_isa.specs.declared.isa.Isa.TheVariants as set
use Rattle.rv_isa.proofs.ByOpcode.{at_jalr}
use Rattle.rv_isa.proofs.assemble.jalr.Goals as goal

pub returns : goal.returns
returns c =
    rw (
      at_jalr set.Imc c.i_word.result c.i_word.ensures.opcode,
      c.i_word.ensures.funct3,
      c.i_word.ensures.rd,
      c.i_word.ensures.rs1,
      c.i_word.ensures.imm,
    ) refl
