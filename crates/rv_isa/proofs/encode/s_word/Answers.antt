use Rattle.std.proofs.Common.{ap}
use Rattle.rv_isa.specs.Bits.{sign_extended}
use Rattle.rv_isa.proofs.Fields.{parts_s}
use Rattle.rv_isa.proofs.encode.s_word.Goals as goal

pub returns-clause-imm : goal.returns-clause-imm
returns-clause-imm c =
    let r = c.r_word.ensures in
    rw (r.funct7, r.rd, c.field-upper.ensures.value, c.field-lower.ensures.value)
    (ap (sign_extended 12) (parts_s c.args.imm c.requires.imm))
