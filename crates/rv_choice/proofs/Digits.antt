-- Numbers of digits alone, and the digits of a stamp.
use Rattle.std.proofs.Common.{◌≡◌, ◌<◌, ◌≤◌, ◌==◌, ◌^◌, ℕ, true, false, List, [], ◌∷◌, refl, arith, inl, inr, Result, Ok, Err, MatchOption}
use Rattle.std.proofs.lemmas.Bool.{and_parts, cases_lt}
use Rattle.std.specs.Char.{digit_value, is_ascii_digit}
use Rattle.std.specs.List.{list_all}
use Rattle.std.specs.Result.{result_ok}
use Rattle.std.specs.Str.Parse.{AllDigits, IsNumeral, ParsesUnsigned, digits_value, without_leading_plus}
use Rattle.std.proofs.lemmas.Bool.Decides.{nat_tests}

digit_in_radix : (c : ℕ) → is_ascii_digit c ≡ true → digit_value c < 10
digit_in_radix c is = grind (arith, nat_tests)

digit_from_value : (c : ℕ) → digit_value c < 10 → is_ascii_digit c ≡ true
digit_from_value c low = grind (arith, nat_tests)

-- a text of digits alone has a value below 10 in each place
pub digits_alone : (xs : List ℕ) → list_all is_ascii_digit xs ≡ true → AllDigits 10 xs
digits_alone [] are = tt
digits_alone (c ∷ cs) are =
    let parts = and_parts _ _ are in (digit_in_radix c parts.0, digits_alone cs parts.1)

pub alone_from_digits : (xs : List ℕ) → AllDigits 10 xs → list_all is_ascii_digit xs ≡ true
alone_from_digits [] are = refl
alone_from_digits (c ∷ cs) are =
    let here = digit_from_value c are.0 in let more = alone_from_digits cs are.1 in cc

-- such a text has no plus in front
pub no_plus : (xs : List ℕ) → list_all is_ascii_digit xs ≡ true → without_leading_plus xs ≡ xs
no_plus [] are = refl
no_plus (c ∷ cs) are =
    let digit : is_ascii_digit c ≡ true = (and_parts (is_ascii_digit c) (list_all is_ascii_digit cs) are).0 in
    let other : (c == 43) ≡ false = grind (arith, nat_tests) in
    rw other

-- what is read of such a text: its value, if that is below 2 ^ 32
pub parsed_digits : {E : Type 0} (xs : List ℕ) (read : Result ℕ E) → list_all is_ascii_digit xs ≡ true
    → ParsesUnsigned 32 10 xs read → MatchOption (result_ok read) (IsNumeral 10 xs → 2 ^ 32 ≤ digits_value 10 xs)
    (λ n. IsNumeral 10 xs × (n ≡ digits_value 10 xs))
parsed_digits xs (Ok n) are gives = let plain = rw (no_plus xs are) at gives in (plain.0.0, plain.1)
parsed_digits xs (Err e) are gives =
    let plain = rw (no_plus xs are) at gives in
    λ numeral. elim (cases_lt (digits_value 10 xs) (2 ^ 32)) [
      | inl low ↦ absurd (plain (numeral, low))
      | inr high ↦ high
    ]

-- a text that has something else is no numeral
pub no_numeral : (xs : List ℕ) → list_all is_ascii_digit xs ≡ false → IsNumeral 10 xs → ⊥
no_numeral xs are numeral = let digits = alone_from_digits xs numeral.1 in cc
