-- Numbers and words, read as they are written.
use Rattle.std.proofs.Common.{length, min}
use Rattle.std.proofs.Common.{◌≡◌, ◌∙◌, ◌==◌, ◌+◌, ◌-◌, ◌*◌, ◌/◌, ◌%◌, ◌<◌, ◌^◌, ℕ, zero, suc, Bool, true, ◌&&◌, not}
use Rattle.std.proofs.Common.{List, [], ◌∷◌, ◌++◌, slice_index, refl, ap, arith, inl, inr}
use Rattle.std.proofs.lemmas.Bool.{and_parts, and_from, cases_lt, eqb-true}
use Rattle.std.proofs.lemmas.Fmt.{decimal_by_steps}
use Rattle.std.specs.Fmt.{decimal}
use Rattle.std.specs.Int.{w32, to_be_bytes}
use Rattle.hex.specs.Hex.{IsBytes, encode_lower, encode_with, lower_digits}
use Rattle.hex.proofs.HexLemmas.{decode_of-encode_lower}
use Rattle.rv_text.specs.Numbers.{word_digits}
use Rattle.rv_count_tables.specs.Lines.{lacks, hex_digit_value, hex_bytes, bytes_if_decoded}
use Rattle.rv_count_tables.proofs.Pieces.{lacks-append}

-- a number with one more digit behind it; what is too large is the greatest
abbrev pub with_digit : ℕ → ℕ → ℕ → ℕ → ℕ
with_digit most base value digit = min (min (value * base) most + digit) most

unfoldable pub decimal_number_from : ℕ → List ℕ → ℕ
decimal_number_from value [] = value
decimal_number_from value (b ∷ bs) = decimal_number_from (with_digit (2 ^ 64 - 1) 10 value (b - 48)) bs

unfoldable pub hex_number : ℕ → List ℕ → ℕ
hex_number value [] = value
hex_number value (b ∷ bs) = hex_number (with_digit (2 ^ 32 - 1) 16 value (hex_digit_value b)) bs

-- ---- decimal numbers

lacks_digit : (byte d : ℕ) → byte < 48 → lacks byte ((48 + d) ∷ []) ≡ true
lacks_digit byte d h = grind arith

pub lacks-decimal : (byte n : ℕ) → byte < 48 → n < 2 ^ 64 → lacks byte (decimal n) ≡ true
lacks-decimal byte n h small =
    decimal_by_steps (λ _ ds. lacks byte ds ≡ true) (λ m _. lacks_digit byte m h)
    (λ m ds _ so. lacks-append byte ds ((48 + m % 10) ∷ []) so (lacks_digit byte (m % 10) h)) n small

number_push : (value : ℕ) (ds : List ℕ) (b : ℕ) → decimal_number_from value (ds ++ b ∷ [])
    ≡ with_digit (2 ^ 64 - 1) 10 (decimal_number_from value ds) (b - 48)
unfolding decimal_number_from
number_push value [] b = refl
number_push value (d ∷ ds) b = number_push (with_digit (2 ^ 64 - 1) 10 value (d - 48)) ds b

one_digit : (n : ℕ) → n < 10 → decimal_number_from 0 ((48 + n) ∷ []) ≡ n
unfolding decimal_number_from
one_digit n h = omega arith

last_digit : (n value : ℕ) → n < 2 ^ 64 → value ≡ n / 10 → with_digit (2 ^ 64 - 1) 10 value (48 + n % 10 - 48) ≡ n
last_digit n value h is = omega arith

pub number_of-decimal : (n : ℕ) → n < 2 ^ 64 → decimal_number_from 0 (decimal n) ≡ n
number_of-decimal n small =
    decimal_by_steps (λ m ds. m < 2 ^ 64 → decimal_number_from 0 ds ≡ m) (λ m h _. one_digit m h)
    (λ m ds _ so h. number_push 0 ds (48 + m % 10) ∙ last_digit m (decimal_number_from 0 ds) h (so (omega arith))) n small
    small

-- ---- words

-- a test that holds of each number below a bound
abbrev pub holds_below : (ℕ → Bool) → ℕ → Bool
holds_below p zero = true
holds_below p (suc n) = p n && holds_below p n

holds_at : (p : ℕ → Bool) (n k : ℕ) → holds_below p n ≡ true → k < n → p k ≡ true
holds_at p zero k h lt = absurd (omega arith)
holds_at p (suc n) k h lt =
    let parts = and_parts (p n) (holds_below p n) h in
    elim (cases_lt k n) [
      | inl below ↦ holds_at p n k parts.1 below
      | inr top ↦
          let e : k ≡ n = omega arith in
          rw e parts.0
    ]

pub digit_is : (d : ℕ) → d < 16 → hex_digit_value (slice_index lower_digits d) ≡ d
digit_is d h = eqb-true (hex_digit_value (slice_index lower_digits d)) d
    (holds_at (λ k. hex_digit_value (slice_index lower_digits k) == k) 16 d refl h)

-- a byte that is no digit
abbrev pub is_no_digit : ℕ → Bool
is_no_digit byte = holds_below (λ k. not (slice_index lower_digits k == byte)) 16

pub digit_is_other : (byte d : ℕ) → is_no_digit byte ≡ true → d < 16 → not (slice_index lower_digits d == byte) ≡ true
digit_is_other byte d other h = holds_at (λ k. not (slice_index lower_digits k == byte)) 16 d other h

pub lacks-encode : (byte : ℕ) (bs : List ℕ) → is_no_digit byte ≡ true → IsBytes bs → lacks byte (encode_lower bs) ≡ true
unfolding encode_with
lacks-encode byte [] other h = refl
lacks-encode byte (b ∷ bs) other h =
    let fits : b < 256 = h 0 in
    and_from _ _ (digit_is_other byte (b / 16) other (omega arith))
    (and_from _ _ (digit_is_other byte (b % 16) other (omega arith)) (lacks-encode byte bs other (λ i. h (suc i))))

-- one byte more
byte_on : (value b : ℕ) (bs : List ℕ) → b < 256 → value * 256 + b < 2 ^ 32
    → hex_number value (encode_lower (b ∷ bs)) ≡ hex_number (value * 256 + b) (encode_lower bs)
unfolding hex_number encode_with
byte_on value b bs fits small =
    let high = digit_is (b / 16) (omega arith) in
    let low = digit_is (b % 16) (omega arith) in
    let same : with_digit (2 ^ 32 - 1) 16 (with_digit (2 ^ 32 - 1) 16 value (b / 16)) (b % 16) ≡ value * 256 + b = omega arith in
    ap (λ (d : ℕ). hex_number (with_digit (2 ^ 32 - 1) 16 (with_digit (2 ^ 32 - 1) 16 value d) (hex_digit_value (slice_index lower_digits (b % 16))))
    (encode_lower bs)) high
    ∙ ap (λ (d : ℕ). hex_number (with_digit (2 ^ 32 - 1) 16 (with_digit (2 ^ 32 - 1) 16 value (b / 16)) d) (encode_lower bs)) low
    ∙ ap (λ (v : ℕ). hex_number v (encode_lower bs)) same

four_bytes : (a b c d : ℕ) → a < 256 → b < 256 → c < 256 → d < 256
    → hex_number 0 (encode_lower (a ∷ b ∷ c ∷ d ∷ [])) ≡ ((a * 256 + b) * 256 + c) * 256 + d
unfolding hex_number encode_with
four_bytes a b c d fa fb fc fd =
    byte_on 0 a (b ∷ c ∷ d ∷ []) fa (omega arith)
    ∙ byte_on (0 * 256 + a) b (c ∷ d ∷ []) fb (omega arith)
    ∙ byte_on ((0 * 256 + a) * 256 + b) c (d ∷ []) fc (omega arith)
    ∙ byte_on (((0 * 256 + a) * 256 + b) * 256 + c) d [] fd (omega arith)
    ∙ omega arith

pub word_of-digits : (w : ℕ) → w < 2 ^ 32 → hex_number 0 (word_digits w) ≡ w
unfolding word_digits
word_of-digits w h = four_bytes (w / 2 ^ 24 % 256) (w / 2 ^ 16 % 256) (w / 2 ^ 8 % 256) (w % 256) (omega arith)
    (omega arith) (omega arith) (omega arith) ∙ omega arith

four_fit : (a b c d : ℕ) → a < 256 → b < 256 → c < 256 → d < 256 → IsBytes (a ∷ b ∷ c ∷ d ∷ [])
four_fit a b c d fa fb fc fd zero = fa
four_fit a b c d fa fb fc fd (suc zero) = fb
four_fit a b c d fa fb fc fd (suc (suc zero)) = fc
four_fit a b c d fa fb fc fd (suc (suc (suc zero))) = fd
four_fit a b c d fa fb fc fd (suc (suc (suc (suc n)))) = omega arith

pub fits_digits : (w : ℕ) → IsBytes (to_be_bytes w32 w)
fits_digits w = four_fit (w / 2 ^ 24 % 256) (w / 2 ^ 16 % 256) (w / 2 ^ 8 % 256) (w % 256) (omega arith) (omega arith)
    (omega arith) (omega arith)

pub lacks-digits : (w : ℕ) → lacks 10 (word_digits w) ≡ true
unfolding word_digits
lacks-digits w = lacks-encode 10 (to_be_bytes w32 w) refl (fits_digits w)

pub eight_digits : (w : ℕ) → length (word_digits w) ≡ 8
unfolding word_digits encode_with
eight_digits w = refl

pub bytes_of-encode : (bs : List ℕ) → IsBytes bs → hex_bytes (encode_lower bs) ≡ bs
unfolding hex_bytes
bytes_of-encode bs h = ap bytes_if_decoded (decode_of-encode_lower bs h)
