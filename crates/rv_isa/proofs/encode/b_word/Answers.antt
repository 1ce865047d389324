use Rattle.std.proofs.Common.{◌≡◌, ap, ◌∙◌, arith}
use Rattle.rv_isa.specs.Bits.{sign_extended, field}
use Rattle.rv_isa.proofs.Fields.{parts_b, field_in, field_self}
use Rattle.rv_isa.proofs.encode.b_word.Goals as goal

pub returns-clause-imm : goal.returns-clause-imm
returns-clause-imm c =
    let w = c.r_word.result in
    let r = c.r_word.ensures in
    let top = c.concat_bits-upper.ensures in
    let low = c.concat_bits-lower.ensures in
    let b12 : field w 31 31 ≡ c.field.result =
    field_in w 31 25 31 31 (omega arith) (omega arith) (omega arith)
    ∙ ap (λ x. field x 6 6) r.funct7
    ∙ top.above 6 6 (omega arith) (omega arith)
    ∙ field_self c.field.result 0 (omega arith) in
    let f10 : field w 30 25 ≡ c.field-2.result =
    field_in w 31 25 30 25 (omega arith) (omega arith) (omega arith)
    ∙ ap (λ x. field x 5 0) r.funct7
    ∙ top.below 5 0 (omega arith) (omega arith)
    ∙ field_self c.field-2.result 5 (omega arith) in
    let f4 : field w 11 8 ≡ c.field-3.result =
    field_in w 11 7 11 8 (omega arith) (omega arith) (omega arith)
    ∙ ap (λ x. field x 4 1) r.rd
    ∙ low.above 4 1 (omega arith) (omega arith)
    ∙ field_self c.field-3.result 3 (omega arith) in
    let b11 : field w 7 7 ≡ c.field-4.result =
    field_in w 11 7 7 7 (omega arith) (omega arith) (omega arith)
    ∙ ap (λ x. field x 0 0) r.rd
    ∙ low.below 0 0 (omega arith) (omega arith)
    ∙ field_self c.field-4.result 0 (omega arith) in
    rw (
      b12,
      f10,
      f4,
      b11,
      c.field.ensures.value,
      c.field-2.ensures.value,
      c.field-3.ensures.value,
      c.field-4.ensures.value,
    ) (ap (sign_extended 13) (parts_b c.args.offset c.requires.offset c.requires.even))
