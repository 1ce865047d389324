use Rattle.std.proofs.Common.{◌≡◌, ◌+◌, ◌*◌, ◌<◌, ◌^◌, ◌%◌, ℕ, bit_or, arith, ap, ◌∙◌}
use Rattle.std.proofs.lemmas.Nat.{or_shifted}
use Rattle.rv_isa.specs.Bits.{field}
use Rattle.rv_isa.proofs.Fields.{joined-high, joined-low}
use Rattle.rv_isa.proofs.bits.concat_bits.Goals as goal

joined : (high low width : ℕ) → low < 2 ^ width → high * 2 ^ width < 2 ^ 32
    → bit_or (high * 2 ^ width % 4294967296) low ≡ high * 2 ^ width + low
joined high low width p q =
    let whole : high * 2 ^ width % 4294967296 ≡ high * 2 ^ width = omega arith in
    ap (λ x. bit_or x low) whole ∙ or_shifted high width low p

pub returns-clause-value : goal.returns-clause-value
returns-clause-value c = joined c.args.high c.args.low c.args.width c.requires.fits c.requires.no_overflow

pub returns-clause-above : goal.returns-clause-above
returns-clause-above c h l p q =
    let a = c.args in
    ap (λ x. field x h l) (joined a.high a.low a.width c.requires.fits c.requires.no_overflow)
    ∙ joined-high a.high a.low a.width h l c.requires.fits p q

pub returns-clause-below : goal.returns-clause-below
returns-clause-below c h l p q =
    let a = c.args in
    ap (λ x. field x h l) (joined a.high a.low a.width c.requires.fits c.requires.no_overflow)
    ∙ joined-low a.high a.low a.width h l c.requires.fits p q
