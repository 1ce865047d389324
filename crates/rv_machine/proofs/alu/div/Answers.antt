use Rattle.std.proofs.Common.{◌≡◌, ◌∙◌, ap, ℤ}
use Rattle.std.specs.Prelude.{FitsSigned}
use Rattle.std.specs.Int.{cast_signed, cast_unsigned, int_wrapping_div, w32}
use Rattle.std.proofs.lemmas.Bool.{ne_eqb}
use Rattle.std.proofs.lemmas.Int.{to_z-of_z}
use Rattle.rv_machine.proofs.Remainders.{quotient_bits}
use Rattle.rv_machine.proofs.alu.div.Goals as goal

pub returns : goal.returns
returns c =
    let r = c.wrapping_div.result in
    let fits : FitsSigned w32 r = record { sfits = c.wrapping_div.type_inv } in
    let dividend : cast_signed w32 (cast_unsigned w32 c.cast_signed.result) ≡ cast_signed w32 c.args.a =
    to_z-of_z w32 c.cast_signed.result (record { sfits = c.cast_signed.type_inv }) ∙ c.cast_signed.ensures in
    let divisor : cast_signed w32 (cast_unsigned w32 c.cast_signed-2.result) ≡ cast_signed w32 c.args.b =
    to_z-of_z w32 c.cast_signed-2.result (record { sfits = c.cast_signed-2.type_inv }) ∙ c.cast_signed-2.ensures in
    let is : r ≡ int_wrapping_div w32 (cast_signed w32 c.args.a) (cast_signed w32 c.args.b) = c.wrapping_div.ensures
    ∙ ap (λ (x : ℤ). int_wrapping_div w32 x (cast_signed w32 (cast_unsigned w32 c.cast_signed-2.result))) dividend
    ∙ ap (λ (y : ℤ). int_wrapping_div w32 (cast_signed w32 c.args.a) y) divisor in
    rw (ne_eqb c.args.b 0 c.if-b-eq0.false)
    (c.cast_unsigned.ensures ∙ ap (cast_unsigned w32) (to_z-of_z w32 r fits)
    ∙ quotient_bits c.args.a c.args.b c.ranges.a.fits c.ranges.b.fits r is)
