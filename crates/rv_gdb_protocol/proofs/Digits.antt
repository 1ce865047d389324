-- A number of so many digits is small.
use Rattle.std.proofs.Common.{◌≡◌, ◌+◌, ◌*◌, ◌^◌, ◌<◌, ℕ, zero, suc, Option, Some, None, arith, refl, ap, ◌∙◌}
use Rattle.std.specs.Option.{IfSome}
use Rattle.std.proofs.Math.Nat.{pow-suc}
use Rattle.hex.specs.Hex.{hex_digit_value}
use Rattle.rv_gdb_protocol.specs.Numbers.{with_hex_digit, with_digit}

-- there is room for one digit more in 32 bits
room_for : (at value : ℕ) → at < 8 → value < 16 ^ at → value < 2 ^ 28
room_for zero value few small = omega arith
room_for (suc zero) value few small = omega arith
room_for (suc (suc zero)) value few small = omega arith
room_for (suc (suc (suc zero))) value few small = omega arith
room_for (suc (suc (suc (suc zero)))) value few small = omega arith
room_for (suc (suc (suc (suc (suc zero))))) value few small = omega arith
room_for (suc (suc (suc (suc (suc (suc zero)))))) value few small = omega arith
room_for (suc (suc (suc (suc (suc (suc (suc zero))))))) value few small = omega arith
room_for (suc (suc (suc (suc (suc (suc (suc (suc at)))))))) value few small = absurd (omega arith)

pub room : (value : Option ℕ) (at : ℕ) → at < 8 → IfSome value (λ v. v < 16 ^ at) → IfSome value (λ v. v < 2 ^ 28)
room (Some value) at few small = room_for at value few small
room None at few small = tt

digit_small : (byte digit : ℕ) → hex_digit_value byte ≡ Some digit → digit < 16
digit_small byte digit is = grind arith

with_digit_small : (value : Option ℕ) (digit : Option ℕ) (at : ℕ) → IfSome value (λ v. v < 16 ^ at)
    → ((d : ℕ) → digit ≡ Some d → d < 16) → IfSome (with_digit value digit) (λ v. v < 16 ^ (at + 1))
with_digit_small (Some value) (Some digit) at small digits =
    let low : digit < 16 = digits digit refl in
    let power : 16 ^ (at + 1) ≡ 16 ^ at * 16 = ap (λ (k : ℕ). 16 ^ k) (omega arith) ∙ pow-suc 16 at in
    omega arith
with_digit_small (Some value) None at small digits = tt
with_digit_small None digit at small digits = tt

pub digit_on_small : (value : Option ℕ) (byte at : ℕ) → IfSome value (λ v. v < 16 ^ at)
    → IfSome (with_hex_digit value byte) (λ v. v < 16 ^ (at + 1))
digit_on_small value byte at small = with_digit_small value (hex_digit_value byte) at small (digit_small byte)
