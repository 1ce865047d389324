use Rattle.std.proofs.Common.{refl}
use Rattle.rv_isa.specs.declared.isa.Isa.TheVariants as set
use Rattle.rv_isa.proofs.ByOpcode.{at_jal}
use Rattle.rv_isa.proofs.assemble.jal.Goals as goal

pub returns : goal.returns
returns c = rw (at_jal set.Imc c.j_word.result c.j_word.ensures.opcode, c.j_word.ensures.rd, c.j_word.ensures.imm) refl
