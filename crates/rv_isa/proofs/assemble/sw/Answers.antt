use Rattle.std.proofs.Common.{refl}
use Rattle.rv_isa.specs.declared.isa.Isa.TheVariants as set
use Rattle.rv_isa.proofs.ByOpcode.{at_store}
use Rattle.rv_isa.proofs.assemble.sw.Goals as goal

pub returns : goal.returns
returns c =
    rw (
      at_store set.Imc c.s_word.result c.s_word.ensures.opcode,
      c.s_word.ensures.funct3,
      c.s_word.ensures.rs1,
      c.s_word.ensures.rs2,
      c.s_word.ensures.imm,
    ) refl
