use Rattle.std.proofs.Common.{refl}
use Rattle.rv_isa.specs.declared.isa.Isa.TheVariants as set
use Rattle.rv_isa.proofs.ByOpcode.{at_lui}
use Rattle.rv_isa.proofs.assemble.lui.Goals as goal

pub returns : goal.returns
returns c =
    rw (at_lui set.Imc c.u_word.result c.u_word.ensures.opcode, c.u_word.ensures.rd, c.u_word.ensures.upper) refl
