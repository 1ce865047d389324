-- A field of a field.
use Rattle.std.proofs.Common.{◌≡◌, ℕ, ◌<◌, ◌≤◌, ◌+◌, ◌-◌, ◌/◌, ◌%◌, ◌^◌, ◌*◌, sym, ◌∙◌, ap, arith}
use Rattle.std.proofs.lemmas.Nat.{field_of, shr-shr, shr_high, mod_low, mod_below, pow_pos}
use Rattle.std.proofs.Math.Pow.{mod-mod-pow}
use Rattle.std.proofs.Math.Nat.{mod-eq_of_lt}
use Rattle.rv_isa.specs.Bits.{field}

-- a field from bit 0 on is a remainder
field-lowest : (n high : ℕ) → field n high 0 ≡ n % 2 ^ (high + 1)
unfolding field
field-lowest n high =
    let whole : n / 1 ≡ n = omega arith in
    let width : high - 0 + 1 ≡ high + 1 = omega arith in
    ap (λ x. x % 2 ^ (high - 0 + 1)) whole ∙ ap (λ e. n % 2 ^ e) width

field-rest : (n top high low : ℕ) → low ≤ high → high ≤ top → field (n % 2 ^ (top + 1)) high low ≡ field n high low
unfolding field
field-rest n top high low p q =
    let first : top + 1 ≡ (top + 1 - low) + low = omega arith in
    let second : top + 1 - low ≡ (top - high) + (high - low + 1) = omega arith in
    ap (λ e. n % 2 ^ e / 2 ^ low % 2 ^ (high - low + 1)) first
    ∙ ap (λ x. x % 2 ^ (high - low + 1)) (field_of n (top + 1 - low) low)
    ∙ ap (λ e. n / 2 ^ low % 2 ^ e % 2 ^ (high - low + 1)) second
    ∙ mod-mod-pow (n / 2 ^ low) (top - high) (high - low + 1)

pub field-low : (n top high low : ℕ) → low ≤ high → high ≤ top → field (field n top 0) high low ≡ field n high low
field-low n top high low p q = ap (λ x. field x high low) (field-lowest n top) ∙ field-rest n top high low p q

-- all 32 bits of a word
pub field_whole : (n : ℕ) → n < 2 ^ 32 → field n 31 0 ≡ n
field_whole n h = field-lowest n 31 ∙ (omega arith)

-- fields of two numbers joined at bit k: above it the first's, below it the second's
pub joined-high : (a b k high low : ℕ) → b < 2 ^ k → k ≤ low → low ≤ high
    → field (a * 2 ^ k + b) high low ≡ field a (high - k) (low - k)
unfolding field
joined-high a b k high low p q r =
    let place : low ≡ k + (low - k) = omega arith in
    let width : high - low + 1 ≡ (high - k) - (low - k) + 1 = omega arith in
    ap (λ e. (a * 2 ^ k + b) / 2 ^ e % 2 ^ (high - low + 1)) place
    ∙ ap (λ x. x % 2 ^ (high - low + 1)) (sym (shr-shr (a * 2 ^ k + b) k (low - k)))
    ∙ ap (λ x. x / 2 ^ (low - k) % 2 ^ (high - low + 1)) (shr_high a k b p)
    ∙ ap (λ e. a / 2 ^ (low - k) % 2 ^ e) width

pub joined-low : (a b k high low : ℕ) → b < 2 ^ k → low ≤ high → high < k
    → field (a * 2 ^ k + b) high low ≡ field b high low
joined-low a b k high low p q r =
    let top : k - 1 + 1 ≡ k = omega arith in
    sym (field-rest (a * 2 ^ k + b) (k - 1) high low q (omega arith))
    ∙ ap (λ e. field ((a * 2 ^ k + b) % 2 ^ e) high low) top
    ∙ ap (λ x. field x high low) (mod_low a k b p)

-- all bits of a number
pub field_self : (n high : ℕ) → n < 2 ^ (high + 1) → field n high 0 ≡ n
field_self n high h = field-lowest n high ∙ mod-eq_of_lt h

-- a field inside a field
pub field_in : (n top bottom high low : ℕ) → bottom ≤ low → low ≤ high → high ≤ top
    → field n high low ≡ field (field n top bottom) (high - bottom) (low - bottom)
unfolding field
field_in n top bottom high low p q r =
    let m = n / 2 ^ bottom in
    let place : low ≡ bottom + (low - bottom) = omega arith in
    let width : high - low + 1 ≡ (high - bottom) - (low - bottom) + 1 = omega arith in
    let inner : field (m % 2 ^ (top - bottom + 1)) (high - bottom) (low - bottom)
    ≡ field m (high - bottom) (low - bottom) =
    field-rest m (top - bottom) (high - bottom) (low - bottom) (omega arith) (omega arith) in
    ap (λ e. n / 2 ^ e % 2 ^ (high - low + 1)) place
    ∙ ap (λ x. x % 2 ^ (high - low + 1)) (sym (shr-shr n bottom (low - bottom)))
    ∙ ap (λ e. m / 2 ^ (low - bottom) % 2 ^ e) width
    ∙ sym inner

-- an immediate is the sum of its parts
pub parts_s : (imm : ℕ) → imm < 4096 → 32 * field imm 11 5 + field imm 4 0 ≡ imm
unfolding field
parts_s imm h = omega arith

pub parts_b : (o : ℕ) → o < 8192 → o % 2 ≡ 0
    → 4096 * field o 12 12 + 2048 * field o 11 11 + 32 * field o 10 5 + 2 * field o 4 1 ≡ o
unfolding field
parts_b o h e = omega arith

pub parts_j : (o : ℕ) → o < 2 ^ 21 → o % 2 ≡ 0
    → 2 ^ 20 * field o 20 20 + 2 ^ 12 * field o 19 12 + 2 ^ 11 * field o 11 11 + 2 * field o 10 1 ≡ o
unfolding field
parts_j o h e = omega arith

pub field_lt : (n high low : ℕ) → field n high low < 2 ^ (high - low + 1)
unfolding field
field_lt n high low = mod_below (n / 2 ^ low) (2 ^ (high - low + 1)) (pow_pos (high - low + 1))
