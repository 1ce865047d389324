-- Steps of the loops over a line.
use Rattle.std.proofs.Common.{◌≡◌, ◌∙◌, ◌==◌, ◌+◌, ◌-◌, ◌<◌, ◌≤◌, ◌^◌, ℕ, Bool, true, false, cond, List, length, drop, get_or, ap, arith}
use Rattle.std.proofs.lemmas.List.{at_drop_more, at_drop_all}
use Rattle.rv_count_tables.specs.Lines.{index_of_byte, hex_digit_value}
use Rattle.rv_count_tables.proofs.Words.{with_digit, decimal_number_from, hex_number}

place_step : (byte : ℕ) (xs : List ℕ) (i : ℕ) → i < length xs
    → index_of_byte byte (drop i xs) ≡ cond (get_or xs i 0 == byte) 0 (index_of_byte byte (drop (i + 1) xs) + 1)
unfolding index_of_byte
place_step byte xs i h = at_drop_more (index_of_byte byte) xs i 0 h

pub place_end : (byte : ℕ) (xs : List ℕ) (i : ℕ) → length xs ≤ i → index_of_byte byte (drop i xs) ≡ 0
unfolding index_of_byte
place_end byte xs i h = at_drop_all (index_of_byte byte) xs i h

pub place_here : (byte : ℕ) (xs : List ℕ) (i : ℕ) → i < length xs → get_or xs i 0 ≡ byte → index_of_byte byte (drop i xs) ≡ 0
place_here byte xs i h is =
    let e : (get_or xs i 0 == byte) ≡ true = grind arith in
    place_step byte xs i h ∙ ap (λ (t : Bool). cond t 0 (index_of_byte byte (drop (i + 1) xs) + 1)) e

pub place_later : (byte : ℕ) (xs : List ℕ) (i : ℕ) → i < length xs → (get_or xs i 0 ≡ byte → ⊥)
    → index_of_byte byte (drop i xs) ≡ index_of_byte byte (drop (i + 1) xs) + 1
place_later byte xs i h other =
    let e : (get_or xs i 0 == byte) ≡ false = grind arith in
    place_step byte xs i h ∙ ap (λ (t : Bool). cond t 0 (index_of_byte byte (drop (i + 1) xs) + 1)) e

pub number_step : (value : ℕ) (xs : List ℕ) (i : ℕ) → i < length xs
    → decimal_number_from value (drop i xs)
    ≡ decimal_number_from (with_digit (2 ^ 64 - 1) 10 value (get_or xs i 0 - 48)) (drop (i + 1) xs)
unfolding decimal_number_from
number_step value xs i h = at_drop_more (decimal_number_from value) xs i 0 h

pub number_end : (value : ℕ) (xs : List ℕ) (i : ℕ) → length xs ≤ i → decimal_number_from value (drop i xs) ≡ value
unfolding decimal_number_from
number_end value xs i h = at_drop_all (decimal_number_from value) xs i h

pub word_step : (value : ℕ) (xs : List ℕ) (i : ℕ) → i < length xs
    → hex_number value (drop i xs)
    ≡ hex_number (with_digit (2 ^ 32 - 1) 16 value (hex_digit_value (get_or xs i 0))) (drop (i + 1) xs)
unfolding hex_number
word_step value xs i h = at_drop_more (hex_number value) xs i 0 h

pub word_end : (value : ℕ) (xs : List ℕ) (i : ℕ) → length xs ≤ i → hex_number value (drop i xs) ≡ value
unfolding hex_number
word_end value xs i h = at_drop_all (hex_number value) xs i h
