use Rattle.std.proofs.Common.{◌≡◌, ◌+◌, ◌-◌, ◌*◌, ◌<◌, ◌≤◌, ◌^◌, ◌%◌, ℕ, suc, arith, ap}
use Rattle.std.proofs.Math.Nat.{pow-le-pow_right, pow-suc}
use Rattle.std.proofs.lemmas.Int.{ints}
use Rattle.std.proofs.lemmas.Nat.{pow_below}
use Rattle.std.proofs.lemmas.Bool.Decides.{nat_tests}
use Rattle.rv_isa.specs.Bits.{sign_extended}
use Rattle.rv_isa.proofs.encode.widen.Goals as goal

-- twice half of a power of two
halves : (n : ℕ) → 1 ≤ n → 2 ^ n ≡ 2 * 2 ^ (n - 1)
halves n h = let e : suc (n - 1) ≡ n = omega arith in omega (arith, ap (λ k. 2 ^ k) e, pow-suc 2 (n - 1))

powers : (i j : ℕ) → i ≤ j → 2 ^ i ≤ 2 ^ j
powers i j h = pow-le-pow_right (omega arith) h

-- the powers of two below 2 ^ 32
shifted : (n : ℕ) → n < 32 → 1 * 2 ^ n % 4294967296 ≡ 2 ^ n
shifted n h = omega (arith, pow_below n 32 h)

lower : (value from_bits to_bits : ℕ) → 1 ≤ from_bits → from_bits ≤ to_bits → value < 2 ^ (from_bits - 1)
    → sign_extended to_bits value ≡ sign_extended from_bits value
lower value from_bits to_bits p q r =
    let le = powers (from_bits - 1) (to_bits - 1) (omega arith) in
    grind (arith, ints, nat_tests)

upper : (value from_bits to_bits : ℕ) → 1 ≤ from_bits → from_bits ≤ to_bits → 2 ^ (from_bits - 1) ≤ value → value < 2 ^ from_bits
    → sign_extended to_bits (value + (2 ^ to_bits - 2 ^ from_bits)) ≡ sign_extended from_bits value
upper value from_bits to_bits p q r s =
    let le = powers (from_bits - 1) (to_bits - 1) (omega arith) in
    let a = halves from_bits p in
    let b = halves to_bits (omega arith) in
    grind (arith, ints, nat_tests)

pub overflow_sub-result : goal.overflow_sub-result
overflow_sub-result c =
    let r = c.requires in
    omega (
      arith,
      shifted c.args.from_bits (omega arith),
      shifted c.args.to_bits (omega arith),
      powers c.args.from_bits c.args.to_bits r.order,
    )

pub returns-then-value-from_bits-clause-same_value : goal.returns-then-value-from_bits-clause-same_value
returns-then-value-from_bits-clause-same_value c =
    lower c.args.value c.args.from_bits c.args.to_bits c.requires.positive c.requires.order
    (omega (arith, shifted (c.args.from_bits - 1) (omega arith)))

pub returns-then-value-from_bits-clause-below : goal.returns-then-value-from_bits-clause-below
returns-then-value-from_bits-clause-below c = omega (arith, powers c.args.from_bits c.args.to_bits c.requires.order)

pub returns-else-value-from_bits-clause-same_value : goal.returns-else-value-from_bits-clause-same_value
returns-else-value-from_bits-clause-same_value c =
    let a = c.args in
    rw (shifted a.to_bits (omega arith), shifted a.from_bits (omega arith))
    (upper a.value a.from_bits a.to_bits c.requires.positive c.requires.order
    (omega (arith, shifted (a.from_bits - 1) (omega arith))) c.requires.small)

pub returns-else-value-from_bits-clause-below : goal.returns-else-value-from_bits-clause-below
returns-else-value-from_bits-clause-below c =
    omega (
      arith,
      shifted c.args.from_bits (omega arith),
      shifted c.args.to_bits (omega arith),
      powers c.args.from_bits c.args.to_bits c.requires.order,
    )

pub returns-else-value-from_bits-clause-parity : goal.returns-else-value-from_bits-clause-parity
returns-else-value-from_bits-clause-parity c =
    let a = c.args in
    let r = c.requires in
    omega (
      arith,
      shifted a.from_bits (omega arith),
      shifted a.to_bits (omega arith),
      halves a.from_bits r.positive,
      halves a.to_bits (omega arith),
      powers a.from_bits a.to_bits r.order,
    )
