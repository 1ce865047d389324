-- A word of which some digits are there, read as the digits with zeros behind them.
use Rattle.std.proofs.Common.{◌≡◌, ◌∙◌, ◌+◌, ◌*◌, ◌/◌, ◌%◌, ◌<◌, ◌^◌, ℕ, zero, suc, true, List, [], ◌∷◌, ◌++◌}
use Rattle.std.proofs.Common.{take, slice_index, refl, sym, ap, arith, subst}
use Rattle.std.proofs.lemmas.Bool.{and_parts, and_from}
use Rattle.hex.specs.Hex.{encode_with, lower_digits}
use Rattle.rv_text.specs.Numbers.{word_digits}
use Rattle.rv_report.specs.LenientReport.{with_digit, hex_number, hex_word, with_zero_digits, is_hex_digit, are_hex_digits}
use Rattle.rv_report.proofs.Words.{digit_is}

abbrev digit : ℕ → ℕ
digit x = slice_index lower_digits x

-- one digit more
with_hex_digit : (value x : ℕ) (bs : List ℕ) → x < 16 → value * 16 + x < 2 ^ 32
    → hex_number value (digit x ∷ bs) ≡ hex_number (value * 16 + x) bs
unfolding hex_number
with_hex_digit value x bs h small =
    let same : with_digit 16 value x ≡ value * 16 + x = omega arith in
    ap (λ (d : ℕ). hex_number (with_digit 16 value d) bs) (digit_is x h) ∙ ap (λ (v : ℕ). hex_number v bs) same

abbrev value_of : ℕ → ℕ → ℕ → ℕ → ℕ → ℕ → ℕ → ℕ → ℕ
value_of x0 x1 x2 x3 x4 x5 x6 x7 = (((((((x0) * 16 + x1) * 16 + x2) * 16 + x3) * 16 + x4) * 16 + x5) * 16 + x6) * 16 + x7

-- the value of eight digits
eight_digits : (x0 x1 x2 x3 x4 x5 x6 x7 : ℕ) → x0 < 16 → x1 < 16 → x2 < 16 → x3 < 16 → x4 < 16 → x5 < 16 → x6 < 16 → x7 < 16
    → hex_number 0 (digit x0 ∷ digit x1 ∷ digit x2 ∷ digit x3 ∷ digit x4 ∷ digit x5 ∷ digit x6 ∷ digit x7 ∷ []) ≡ value_of x0 x1 x2 x3 x4 x5 x6 x7
unfolding hex_number
eight_digits x0 x1 x2 x3 x4 x5 x6 x7 h0 h1 h2 h3 h4 h5 h6 h7 =
    with_hex_digit (0) x0 (digit x1 ∷ digit x2 ∷ digit x3 ∷ digit x4 ∷ digit x5 ∷ digit x6 ∷ digit x7 ∷ []) h0 (omega arith)
    ∙ with_hex_digit (0 * 16 + x0) x1 (digit x2 ∷ digit x3 ∷ digit x4 ∷ digit x5 ∷ digit x6 ∷ digit x7 ∷ []) h1 (omega arith)
    ∙ with_hex_digit ((0 * 16 + x0) * 16 + x1) x2 (digit x3 ∷ digit x4 ∷ digit x5 ∷ digit x6 ∷ digit x7 ∷ []) h2 (omega arith)
    ∙ with_hex_digit (((0 * 16 + x0) * 16 + x1) * 16 + x2) x3 (digit x4 ∷ digit x5 ∷ digit x6 ∷ digit x7 ∷ []) h3 (omega arith)
    ∙ with_hex_digit ((((0 * 16 + x0) * 16 + x1) * 16 + x2) * 16 + x3) x4 (digit x5 ∷ digit x6 ∷ digit x7 ∷ []) h4 (omega arith)
    ∙ with_hex_digit (((((0 * 16 + x0) * 16 + x1) * 16 + x2) * 16 + x3) * 16 + x4) x5 (digit x6 ∷ digit x7 ∷ []) h5 (omega arith)
    ∙ with_hex_digit ((((((0 * 16 + x0) * 16 + x1) * 16 + x2) * 16 + x3) * 16 + x4) * 16 + x5) x6 (digit x7 ∷ []) h6 (omega arith)
    ∙ with_hex_digit (((((((0 * 16 + x0) * 16 + x1) * 16 + x2) * 16 + x3) * 16 + x4) * 16 + x5) * 16 + x6) x7 ([]) h7 (omega arith)
    ∙ omega arith

digit_0 : (x0 x1 x2 x3 x4 x5 x6 x7 : ℕ) → x0 < 16 → x1 < 16 → x2 < 16 → x3 < 16 → x4 < 16 → x5 < 16 → x6 < 16 → x7 < 16
    → value_of x0 x1 x2 x3 x4 x5 x6 x7 / 2 ^ 24 % 256 / 16 ≡ x0
digit_0 x0 x1 x2 x3 x4 x5 x6 x7 h0 h1 h2 h3 h4 h5 h6 h7 = omega arith

digit_1 : (x0 x1 x2 x3 x4 x5 x6 x7 : ℕ) → x0 < 16 → x1 < 16 → x2 < 16 → x3 < 16 → x4 < 16 → x5 < 16 → x6 < 16 → x7 < 16
    → value_of x0 x1 x2 x3 x4 x5 x6 x7 / 2 ^ 24 % 256 % 16 ≡ x1
digit_1 x0 x1 x2 x3 x4 x5 x6 x7 h0 h1 h2 h3 h4 h5 h6 h7 = omega arith

digit_2 : (x0 x1 x2 x3 x4 x5 x6 x7 : ℕ) → x0 < 16 → x1 < 16 → x2 < 16 → x3 < 16 → x4 < 16 → x5 < 16 → x6 < 16 → x7 < 16
    → value_of x0 x1 x2 x3 x4 x5 x6 x7 / 2 ^ 16 % 256 / 16 ≡ x2
digit_2 x0 x1 x2 x3 x4 x5 x6 x7 h0 h1 h2 h3 h4 h5 h6 h7 = omega arith

digit_3 : (x0 x1 x2 x3 x4 x5 x6 x7 : ℕ) → x0 < 16 → x1 < 16 → x2 < 16 → x3 < 16 → x4 < 16 → x5 < 16 → x6 < 16 → x7 < 16
    → value_of x0 x1 x2 x3 x4 x5 x6 x7 / 2 ^ 16 % 256 % 16 ≡ x3
digit_3 x0 x1 x2 x3 x4 x5 x6 x7 h0 h1 h2 h3 h4 h5 h6 h7 = omega arith

digit_4 : (x0 x1 x2 x3 x4 x5 x6 x7 : ℕ) → x0 < 16 → x1 < 16 → x2 < 16 → x3 < 16 → x4 < 16 → x5 < 16 → x6 < 16 → x7 < 16
    → value_of x0 x1 x2 x3 x4 x5 x6 x7 / 2 ^ 8 % 256 / 16 ≡ x4
digit_4 x0 x1 x2 x3 x4 x5 x6 x7 h0 h1 h2 h3 h4 h5 h6 h7 = omega arith

digit_5 : (x0 x1 x2 x3 x4 x5 x6 x7 : ℕ) → x0 < 16 → x1 < 16 → x2 < 16 → x3 < 16 → x4 < 16 → x5 < 16 → x6 < 16 → x7 < 16
    → value_of x0 x1 x2 x3 x4 x5 x6 x7 / 2 ^ 8 % 256 % 16 ≡ x5
digit_5 x0 x1 x2 x3 x4 x5 x6 x7 h0 h1 h2 h3 h4 h5 h6 h7 = omega arith

digit_6 : (x0 x1 x2 x3 x4 x5 x6 x7 : ℕ) → x0 < 16 → x1 < 16 → x2 < 16 → x3 < 16 → x4 < 16 → x5 < 16 → x6 < 16 → x7 < 16
    → value_of x0 x1 x2 x3 x4 x5 x6 x7 % 256 / 16 ≡ x6
digit_6 x0 x1 x2 x3 x4 x5 x6 x7 h0 h1 h2 h3 h4 h5 h6 h7 = omega arith

digit_7 : (x0 x1 x2 x3 x4 x5 x6 x7 : ℕ) → x0 < 16 → x1 < 16 → x2 < 16 → x3 < 16 → x4 < 16 → x5 < 16 → x6 < 16 → x7 < 16
    → value_of x0 x1 x2 x3 x4 x5 x6 x7 % 256 % 16 ≡ x7
digit_7 x0 x1 x2 x3 x4 x5 x6 x7 h0 h1 h2 h3 h4 h5 h6 h7 = omega arith

-- the digits of that value
digits_of_value : (x0 x1 x2 x3 x4 x5 x6 x7 : ℕ) → x0 < 16 → x1 < 16 → x2 < 16 → x3 < 16 → x4 < 16 → x5 < 16 → x6 < 16 → x7 < 16
    → word_digits (value_of x0 x1 x2 x3 x4 x5 x6 x7) ≡ digit x0 ∷ digit x1 ∷ digit x2 ∷ digit x3 ∷ digit x4 ∷ digit x5 ∷ digit x6 ∷ digit x7 ∷ []
unfolding word_digits encode_with
digits_of_value x0 x1 x2 x3 x4 x5 x6 x7 h0 h1 h2 h3 h4 h5 h6 h7 =
    let v = value_of x0 x1 x2 x3 x4 x5 x6 x7 in
    ap (λ (n : ℕ). digit n ∷ digit (v / 2 ^ 24 % 256 % 16) ∷ digit (v / 2 ^ 16 % 256 / 16) ∷ digit (v / 2 ^ 16 % 256 % 16) ∷ digit (v / 2 ^ 8 % 256 / 16) ∷ digit (v / 2 ^ 8 % 256 % 16) ∷ digit (v % 256 / 16) ∷ digit (v % 256 % 16) ∷ []) (digit_0 x0 x1 x2 x3 x4 x5 x6 x7 h0 h1 h2 h3 h4 h5 h6 h7)
    ∙ ap (λ (n : ℕ). digit x0 ∷ digit n ∷ digit (v / 2 ^ 16 % 256 / 16) ∷ digit (v / 2 ^ 16 % 256 % 16) ∷ digit (v / 2 ^ 8 % 256 / 16) ∷ digit (v / 2 ^ 8 % 256 % 16) ∷ digit (v % 256 / 16) ∷ digit (v % 256 % 16) ∷ []) (digit_1 x0 x1 x2 x3 x4 x5 x6 x7 h0 h1 h2 h3 h4 h5 h6 h7)
    ∙ ap (λ (n : ℕ). digit x0 ∷ digit x1 ∷ digit n ∷ digit (v / 2 ^ 16 % 256 % 16) ∷ digit (v / 2 ^ 8 % 256 / 16) ∷ digit (v / 2 ^ 8 % 256 % 16) ∷ digit (v % 256 / 16) ∷ digit (v % 256 % 16) ∷ []) (digit_2 x0 x1 x2 x3 x4 x5 x6 x7 h0 h1 h2 h3 h4 h5 h6 h7)
    ∙ ap (λ (n : ℕ). digit x0 ∷ digit x1 ∷ digit x2 ∷ digit n ∷ digit (v / 2 ^ 8 % 256 / 16) ∷ digit (v / 2 ^ 8 % 256 % 16) ∷ digit (v % 256 / 16) ∷ digit (v % 256 % 16) ∷ []) (digit_3 x0 x1 x2 x3 x4 x5 x6 x7 h0 h1 h2 h3 h4 h5 h6 h7)
    ∙ ap (λ (n : ℕ). digit x0 ∷ digit x1 ∷ digit x2 ∷ digit x3 ∷ digit n ∷ digit (v / 2 ^ 8 % 256 % 16) ∷ digit (v % 256 / 16) ∷ digit (v % 256 % 16) ∷ []) (digit_4 x0 x1 x2 x3 x4 x5 x6 x7 h0 h1 h2 h3 h4 h5 h6 h7)
    ∙ ap (λ (n : ℕ). digit x0 ∷ digit x1 ∷ digit x2 ∷ digit x3 ∷ digit x4 ∷ digit n ∷ digit (v % 256 / 16) ∷ digit (v % 256 % 16) ∷ []) (digit_5 x0 x1 x2 x3 x4 x5 x6 x7 h0 h1 h2 h3 h4 h5 h6 h7)
    ∙ ap (λ (n : ℕ). digit x0 ∷ digit x1 ∷ digit x2 ∷ digit x3 ∷ digit x4 ∷ digit x5 ∷ digit n ∷ digit (v % 256 % 16) ∷ []) (digit_6 x0 x1 x2 x3 x4 x5 x6 x7 h0 h1 h2 h3 h4 h5 h6 h7)
    ∙ ap (λ (n : ℕ). digit x0 ∷ digit x1 ∷ digit x2 ∷ digit x3 ∷ digit x4 ∷ digit x5 ∷ digit x6 ∷ digit n ∷ []) (digit_7 x0 x1 x2 x3 x4 x5 x6 x7 h0 h1 h2 h3 h4 h5 h6 h7)

-- eight digits are the word that they say
same_digits : (x0 x1 x2 x3 x4 x5 x6 x7 : ℕ) → x0 < 16 → x1 < 16 → x2 < 16 → x3 < 16 → x4 < 16 → x5 < 16 → x6 < 16 → x7 < 16
    → word_digits (hex_number 0 (digit x0 ∷ digit x1 ∷ digit x2 ∷ digit x3 ∷ digit x4 ∷ digit x5 ∷ digit x6 ∷ digit x7 ∷ [])) ≡ digit x0 ∷ digit x1 ∷ digit x2 ∷ digit x3 ∷ digit x4 ∷ digit x5 ∷ digit x6 ∷ digit x7 ∷ []
same_digits x0 x1 x2 x3 x4 x5 x6 x7 h0 h1 h2 h3 h4 h5 h6 h7 =
    ap word_digits (eight_digits x0 x1 x2 x3 x4 x5 x6 x7 h0 h1 h2 h3 h4 h5 h6 h7) ∙ digits_of_value x0 x1 x2 x3 x4 x5 x6 x7 h0 h1 h2 h3 h4 h5 h6 h7

pub take_none : (n : ℕ) → take {A = ℕ} n [] ≡ []
take_none zero = refl
take_none (suc n) = refl

-- the first digits, at least one, begin the word that they say
first_digits : (n : ℕ) (x0 x1 x2 x3 x4 x5 x6 x7 : ℕ) → x0 < 16 → x1 < 16 → x2 < 16 → x3 < 16 → x4 < 16 → x5 < 16 → x6 < 16 → x7 < 16
    → (z : List ℕ) × (word_digits (hex_word (take (suc n) (digit x0 ∷ digit x1 ∷ digit x2 ∷ digit x3 ∷ digit x4 ∷ digit x5 ∷ digit x6 ∷ digit x7 ∷ []))) ≡ take (suc n) (digit x0 ∷ digit x1 ∷ digit x2 ∷ digit x3 ∷ digit x4 ∷ digit x5 ∷ digit x6 ∷ digit x7 ∷ []) ++ z)
unfolding hex_word with_zero_digits hex_number
first_digits zero x0 x1 x2 x3 x4 x5 x6 x7 h0 h1 h2 h3 h4 h5 h6 h7 = (48 ∷ 48 ∷ 48 ∷ 48 ∷ 48 ∷ 48 ∷ 48 ∷ [], same_digits x0 0 0 0 0 0 0 0 h0 (omega arith) (omega arith) (omega arith) (omega arith) (omega arith) (omega arith) (omega arith))
first_digits (suc zero) x0 x1 x2 x3 x4 x5 x6 x7 h0 h1 h2 h3 h4 h5 h6 h7 = (48 ∷ 48 ∷ 48 ∷ 48 ∷ 48 ∷ 48 ∷ [], same_digits x0 x1 0 0 0 0 0 0 h0 h1 (omega arith) (omega arith) (omega arith) (omega arith) (omega arith) (omega arith))
first_digits (suc (suc zero)) x0 x1 x2 x3 x4 x5 x6 x7 h0 h1 h2 h3 h4 h5 h6 h7 = (48 ∷ 48 ∷ 48 ∷ 48 ∷ 48 ∷ [], same_digits x0 x1 x2 0 0 0 0 0 h0 h1 h2 (omega arith) (omega arith) (omega arith) (omega arith) (omega arith))
first_digits (suc (suc (suc zero))) x0 x1 x2 x3 x4 x5 x6 x7 h0 h1 h2 h3 h4 h5 h6 h7 = (48 ∷ 48 ∷ 48 ∷ 48 ∷ [], same_digits x0 x1 x2 x3 0 0 0 0 h0 h1 h2 h3 (omega arith) (omega arith) (omega arith) (omega arith))
first_digits (suc (suc (suc (suc zero)))) x0 x1 x2 x3 x4 x5 x6 x7 h0 h1 h2 h3 h4 h5 h6 h7 = (48 ∷ 48 ∷ 48 ∷ [], same_digits x0 x1 x2 x3 x4 0 0 0 h0 h1 h2 h3 h4 (omega arith) (omega arith) (omega arith))
first_digits (suc (suc (suc (suc (suc zero))))) x0 x1 x2 x3 x4 x5 x6 x7 h0 h1 h2 h3 h4 h5 h6 h7 = (48 ∷ 48 ∷ [], same_digits x0 x1 x2 x3 x4 x5 0 0 h0 h1 h2 h3 h4 h5 (omega arith) (omega arith))
first_digits (suc (suc (suc (suc (suc (suc zero)))))) x0 x1 x2 x3 x4 x5 x6 x7 h0 h1 h2 h3 h4 h5 h6 h7 = (48 ∷ [], same_digits x0 x1 x2 x3 x4 x5 x6 0 h0 h1 h2 h3 h4 h5 h6 (omega arith))
first_digits (suc (suc (suc (suc (suc (suc (suc n))))))) x0 x1 x2 x3 x4 x5 x6 x7 h0 h1 h2 h3 h4 h5 h6 h7 =
    subst (λ (t : List ℕ). (z : List ℕ) × (word_digits (hex_word (digit x0 ∷ digit x1 ∷ digit x2 ∷ digit x3 ∷ digit x4 ∷ digit x5 ∷ digit x6 ∷ digit x7 ∷ t)) ≡ (digit x0 ∷ digit x1 ∷ digit x2 ∷ digit x3 ∷ digit x4 ∷ digit x5 ∷ digit x6 ∷ digit x7 ∷ t) ++ z))
    (sym (take_none n)) ([], same_digits x0 x1 x2 x3 x4 x5 x6 x7 h0 h1 h2 h3 h4 h5 h6 h7)

-- the first digits of a word begin the word that they say
pub cut_word_digits : (w n : ℕ) → w < 2 ^ 32
    → (z : List ℕ) × (word_digits (hex_word (take (suc n) (word_digits w))) ≡ take (suc n) (word_digits w) ++ z)
unfolding word_digits encode_with
cut_word_digits w n small =
    first_digits n (w / 2 ^ 24 % 256 / 16) (w / 2 ^ 24 % 256 % 16) (w / 2 ^ 16 % 256 / 16) (w / 2 ^ 16 % 256 % 16) (w / 2 ^ 8 % 256 / 16) (w / 2 ^ 8 % 256 % 16) (w % 256 / 16) (w % 256 % 16)
    (omega arith) (omega arith) (omega arith) (omega arith) (omega arith) (omega arith) (omega arith) (omega arith)

-- ---- the first digits are digits

pub digits_taken : (n : ℕ) (bs : List ℕ) → are_hex_digits bs ≡ true → are_hex_digits (take n bs) ≡ true
unfolding are_hex_digits
digits_taken zero bs h = refl
digits_taken (suc n) [] h = refl
digits_taken (suc n) (b ∷ bs) h =
    let parts = and_parts (is_hex_digit b) (are_hex_digits bs) h in
    and_from (is_hex_digit b) (are_hex_digits (take n bs)) parts.0 (digits_taken n bs parts.1)
