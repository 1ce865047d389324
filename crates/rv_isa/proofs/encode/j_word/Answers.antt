use Rattle.std.proofs.Common.{◌≡◌, ap, ◌∙◌, arith}
use Rattle.rv_isa.specs.Bits.{sign_extended, field}
use Rattle.rv_isa.proofs.Fields.{parts_j, field_in, field_self}
use Rattle.rv_isa.proofs.encode.j_word.Goals as goal

pub returns-clause-imm : goal.returns-clause-imm
returns-clause-imm c =
    let w = c.u_word.result in
    let r = c.u_word.ensures.upper in
    let outer = c.concat_bits-with_high.ensures in
    let middle = c.concat_bits-with_middle.ensures in
    let inner = c.concat_bits-with_low.ensures in
    let b20 : field w 31 31 ≡ c.field.result =
    field_in w 31 12 31 31 (omega arith) (omega arith) (omega arith)
    ∙ ap (λ x. field x 19 19) r
    ∙ outer.above 19 19 (omega arith) (omega arith)
    ∙ middle.above 11 11 (omega arith) (omega arith)
    ∙ inner.above 10 10 (omega arith) (omega arith)
    ∙ field_self c.field.result 0 (omega arith) in
    let f10 : field w 30 21 ≡ c.field-2.result =
    field_in w 31 12 30 21 (omega arith) (omega arith) (omega arith)
    ∙ ap (λ x. field x 18 9) r
    ∙ outer.above 18 9 (omega arith) (omega arith)
    ∙ middle.above 10 1 (omega arith) (omega arith)
    ∙ inner.below 9 0 (omega arith) (omega arith)
    ∙ field_self c.field-2.result 9 (omega arith) in
    let b11 : field w 20 20 ≡ c.field-3.result =
    field_in w 31 12 20 20 (omega arith) (omega arith) (omega arith)
    ∙ ap (λ x. field x 8 8) r
    ∙ outer.above 8 8 (omega arith) (omega arith)
    ∙ middle.below 0 0 (omega arith) (omega arith)
    ∙ field_self c.field-3.result 0 (omega arith) in
    let f19 : field w 19 12 ≡ c.field-4.result =
    field_in w 31 12 19 12 (omega arith) (omega arith) (omega arith)
    ∙ ap (λ x. field x 7 0) r
    ∙ outer.below 7 0 (omega arith) (omega arith)
    ∙ field_self c.field-4.result 7 (omega arith) in
    rw (
      b20,
      f10,
      b11,
      f19,
      c.field.ensures.value,
      c.field-2.ensures.value,
      c.field-3.ensures.value,
      c.field-4.ensures.value,
    ) (ap (sign_extended 21) (parts_j c.args.offset c.requires.offset c.requires.even))
