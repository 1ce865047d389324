use Rattle.std.proofs.Common.{◌≡◌, ◌+◌, ◌-◌, ◌<◌, ◌≤◌, ◌^◌, ◌/◌, ◌%◌, ℕ, bit_and, arith, ap, ◌∙◌}
use Rattle.std.proofs.lemmas.Nat.{and_mask, pow_pos, mod_below}
use Rattle.std.proofs.lemmas.Nat.Bits.{ones_shr}
use Rattle.rv_isa.specs.Bits.{field}
use Rattle.rv_isa.proofs.bits.field.Goals as goal

-- `&` with the mask of a field's width takes the field
taken : (n high low : ℕ) → low ≤ high → high < 32
    → bit_and (n / 2 ^ low) (4294967295 / 2 ^ (31 - (high - low))) ≡ n / 2 ^ low % 2 ^ (high - low + 1)
taken n high low h k =
    let width : 32 - (31 - (high - low)) ≡ high - low + 1 = omega arith in
    let mask : 4294967295 / 2 ^ (31 - (high - low)) ≡ 2 ^ (high - low + 1) - 1 = ones_shr 32 (31 - (high - low))
    (omega arith) ∙ ap (λ e. 2 ^ e - 1) width in
    ap (bit_and (n / 2 ^ low)) mask ∙ and_mask (n / 2 ^ low) (high - low + 1)

pub returns-clause-value : goal.returns-clause-value
unfolding field
returns-clause-value c = taken c.args.word c.args.high c.args.low c.requires.ordered c.requires.within

pub returns-clause-small : goal.returns-clause-small
returns-clause-small c =
    let a = c.args in
    omega (
      arith,
      taken a.word a.high a.low c.requires.ordered c.requires.within,
      mod_below (a.word / 2 ^ a.low) (2 ^ (a.high - a.low + 1)) (pow_pos (a.high - a.low + 1)),
    )
