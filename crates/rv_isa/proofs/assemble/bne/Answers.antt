use Rattle.std.proofs.Common.{refl}
use Rattle.rv_isa.specs.declared.isa.Isa.TheVariants as set
use Rattle.rv_isa.proofs.ByOpcode.{at_branch}
use Rattle.rv_isa.proofs.assemble.bne.Goals as goal

pub returns : goal.returns
returns c =
    rw (
      at_branch set.Imc c.b_word.result c.b_word.ensures.opcode,
      c.b_word.ensures.funct3,
      c.b_word.ensures.rs1,
      c.b_word.ensures.rs2,
      c.b_word.ensures.imm,
    ) refl
