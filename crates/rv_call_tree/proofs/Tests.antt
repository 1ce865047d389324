-- What tests of numbers say.
use Rattle.std.proofs.Common.{◌≡◌, ◌==◌, ◌<◌, ◌≤◌, ℕ, true, false, arith}
use Rattle.std.proofs.lemmas.Bool.Decides.{nat_tests}
use Rattle.std.specs.Prelude.{nat_lt}

pub equal_by : (x y : ℕ) → (x == y) ≡ true → x ≡ y
equal_by x y h = grind (arith, nat_tests)

pub equal_test : (x y : ℕ) → x ≡ y → (x == y) ≡ true
equal_test x y h = grind (arith, nat_tests)

pub turned : (x y : ℕ) → (x == y) ≡ (y == x)
turned x y = grind (arith, nat_tests)

pub less_by : (x y : ℕ) → nat_lt x y ≡ true → x < y
less_by x y h = grind (arith, nat_tests)

pub not_less_by : (x y : ℕ) → nat_lt x y ≡ false → y ≤ x
not_less_by x y h = grind (arith, nat_tests)

pub less_test : (x y : ℕ) → x < y → nat_lt x y ≡ true
less_test x y h = grind (arith, nat_tests)

pub not_less_test : (x y : ℕ) → y ≤ x → nat_lt x y ≡ false
not_less_test x y h = grind (arith, nat_tests)
