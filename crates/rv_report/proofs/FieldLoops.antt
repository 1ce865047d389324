-- Steps of the loops over a text.
use Rattle.std.proofs.Common.{◌≡◌, ◌∙◌, ◌==◌, ◌+◌, ◌-◌, ◌<◌, ◌≤◌, ℕ, zero, suc, Bool, true, false, ◌&&◌, not, cond}
use Rattle.std.proofs.Common.{List, [], ◌∷◌, length, take, drop, get_or, refl, sym, ap, arith, add-one, inl, inr, ◌++◌}
use Rattle.std.proofs.Common.{nat_lt, nat_le, Option, Some, None}
use Rattle.std.proofs.lemmas.List.{at_drop_more, at_drop_all}
use Rattle.std.proofs.lemmas.Bool.Decides.{nat_tests}
use Rattle.std.proofs.lemmas.Bool.{and_parts}
use Rattle.std.proofs.lemmas.Str.{IsUtf8-from_ascii}
use Rattle.std.proofs.lemmas.Bool.{cases_Bool}
use Rattle.std.specs.List.{onto_first, list_all}
use Rattle.std.specs.Str.{IsAscii, IsUtf8}
use Rattle.rv_base.specs.Names.{is_name, is_name_byte}
use Rattle.rv_base.specs.Limits.{is_within}
use Rattle.std.specs.Prelude.{Result, Ok, Err, IfOk}
use Rattle.rv_report.specs.LenientReport.{ReaderStateView, with_line, with_lines, lines, index_of_byte, decimal_number_from, hex_number, with_digit}
use Rattle.rv_report.specs.LenientReport.{hex_digit_value, with_zero_digits, are_hex_digits, is_hex_digit}
use Rattle.rv_report.specs.declared.row.Row.{Row}
use Rattle.std.specs.Prelude.{is_some}
use Rattle.std.proofs.lemmas.Bool.{false≢true}
use Rattle.rv_base.specs.Names.{index_in}
use Rattle.rv_report.specs.LenientReport.{count_before_repeated_name}
use Rattle.rv_report.specs.Saved.{are_increasing, are_evenly_spaced, row_names}

pub place_step : (byte : ℕ) (xs : List ℕ) (i : ℕ) → i < length xs
    → index_of_byte byte (drop i xs) ≡ cond (get_or xs i 0 == byte) 0 (index_of_byte byte (drop (i + 1) xs) + 1)
unfolding index_of_byte
place_step byte xs i h = at_drop_more (index_of_byte byte) xs i 0 h

pub place_end : (byte : ℕ) (xs : List ℕ) (i : ℕ) → length xs ≤ i → index_of_byte byte (drop i xs) ≡ 0
unfolding index_of_byte
place_end byte xs i h = at_drop_all (index_of_byte byte) xs i h

pub number_step : (value : ℕ) (xs : List ℕ) (i : ℕ) → i < length xs
    → decimal_number_from value (drop i xs) ≡ decimal_number_from (with_digit 10 value (get_or xs i 0 - 48)) (drop (i + 1) xs)
unfolding decimal_number_from
number_step value xs i h = at_drop_more (decimal_number_from value) xs i 0 h

pub number_end : (value : ℕ) (xs : List ℕ) (i : ℕ) → length xs ≤ i → decimal_number_from value (drop i xs) ≡ value
unfolding decimal_number_from
number_end value xs i h = at_drop_all (decimal_number_from value) xs i h

pub word_step : (value : ℕ) (xs : List ℕ) (i : ℕ) → i < length xs
    → hex_number value (drop i xs) ≡ hex_number (with_digit 16 value (hex_digit_value (get_or xs i 0))) (drop (i + 1) xs)
unfolding hex_number
word_step value xs i h = at_drop_more (hex_number value) xs i 0 h

pub word_end : (value : ℕ) (xs : List ℕ) (i : ℕ) → length xs ≤ i → hex_number value (drop i xs) ≡ value
unfolding hex_number
word_end value xs i h = at_drop_all (hex_number value) xs i h

-- missing digits are zeros
pub shifted_step : (i value : ℕ) → i < 8 → with_zero_digits (8 - i) value ≡ with_zero_digits (8 - (i + 1)) (with_digit 16 value 0)
unfolding with_zero_digits
shifted_step i value h =
    let e : 8 - i ≡ suc (8 - (i + 1)) = omega arith in
    ap (λ (n : ℕ). with_zero_digits n value) e

pub shifted_end : (i value : ℕ) → 8 ≤ i → with_zero_digits (8 - i) value ≡ value
unfolding with_zero_digits
shifted_end i value h = let e : 8 - i ≡ 0 = omega arith in ap (λ (n : ℕ). with_zero_digits n value) e

pub hex_step : (xs : List ℕ) (i : ℕ) → i < length xs
    → are_hex_digits (drop i xs) ≡ (is_hex_digit (get_or xs i 0) && are_hex_digits (drop (i + 1) xs))
unfolding are_hex_digits
hex_step xs i h = at_drop_more are_hex_digits xs i 0 h

pub hex_end : (xs : List ℕ) (i : ℕ) → length xs ≤ i → are_hex_digits (drop i xs) ≡ true
unfolding are_hex_digits
hex_end xs i h = at_drop_all are_hex_digits xs i h

-- a name is a text
byte_is_ascii : (b : ℕ) → is_name_byte b ≡ true → b < 128
unfolding is_name_byte
byte_is_ascii b h = grind (arith, nat_tests)

bytes_are_ascii : (xs : List ℕ) → list_all is_name_byte xs ≡ true → IsAscii xs
bytes_are_ascii [] h i = omega arith
bytes_are_ascii (b ∷ bs) h zero = byte_is_ascii b (and_parts (is_name_byte b) (list_all is_name_byte bs) h).0
bytes_are_ascii (b ∷ bs) h (suc i) = bytes_are_ascii bs (and_parts (is_name_byte b) (list_all is_name_byte bs) h).1 i

pub name_is_text : (xs : List ℕ) → is_name xs ≡ true → IsUtf8 xs
unfolding is_name
name_is_text xs h = IsUtf8-from_ascii xs (bytes_are_ascii xs
    (and_parts (is_within 1 64 (length xs)) (list_all is_name_byte xs) h).1)

-- the first line, by the place of its line feed
pub first_line : (b : ℕ) (bs : List ℕ) (p : ℕ) → p ≡ index_of_byte 10 (b ∷ bs)
    → lines (b ∷ bs) ≡ take p (b ∷ bs) ∷ lines (drop (suc p) (b ∷ bs))
unfolding lines index_of_byte
first_line b [] p is =
    elim (cases_Bool (b == 10)) [
      | inl e ↦
          let z : p ≡ 0 = is ∙ ap (λ (t : Bool). cond t 0 (0 + 1)) e in
          rw z (ap (λ (t : Bool). cond t ([] ∷ lines []) (onto_first b (lines []))) e)
      | inr e ↦
          let z : p ≡ 1 = is ∙ ap (λ (t : Bool). cond t 0 (0 + 1)) e in
          rw z (ap (λ (t : Bool). cond t ([] ∷ lines []) (onto_first b (lines []))) e)
    ]
first_line b (c ∷ cs) p is =
    elim (cases_Bool (b == 10)) [
      | inl e ↦
          let z : p ≡ 0 = is ∙ ap (λ (t : Bool). cond t 0 (index_of_byte 10 (c ∷ cs) + 1)) e in
          rw z (ap (λ (t : Bool). cond t ([] ∷ lines (c ∷ cs)) (onto_first b (lines (c ∷ cs)))) e)
      | inr e ↦
          let q = index_of_byte 10 (c ∷ cs) in
          let z : p ≡ suc q = is ∙ ap (λ (t : Bool). cond t 0 (q + 1)) e ∙ add-one q in
          rw z (ap (λ (t : Bool). cond t ([] ∷ lines (c ∷ cs)) (onto_first b (lines (c ∷ cs)))) e
          ∙ ap (onto_first b) (first_line c cs q refl))
    ]

pub first_line_of : (text : List ℕ) (p : ℕ) → 0 < length text → p ≡ index_of_byte 10 text
    → lines text ≡ take p text ∷ lines (drop (p + 1) text)
first_line_of [] p h is = absurd (omega arith)
first_line_of (b ∷ bs) p h is = rw (add-one p) (first_line b bs p is)

-- ---- steps that a test decides

pub place_here : (byte : ℕ) (xs : List ℕ) (i : ℕ) → i < length xs → get_or xs i 0 ≡ byte → index_of_byte byte (drop i xs) ≡ 0
place_here byte xs i h is =
    let e : (get_or xs i 0 == byte) ≡ true = grind arith in
    place_step byte xs i h ∙ ap (λ (t : Bool). cond t 0 (index_of_byte byte (drop (i + 1) xs) + 1)) e

pub place_later : (byte : ℕ) (xs : List ℕ) (i : ℕ) → i < length xs → (get_or xs i 0 ≡ byte → ⊥)
    → index_of_byte byte (drop i xs) ≡ index_of_byte byte (drop (i + 1) xs) + 1
place_later byte xs i h other =
    let e : (get_or xs i 0 == byte) ≡ false = grind arith in
    place_step byte xs i h ∙ ap (λ (t : Bool). cond t 0 (index_of_byte byte (drop (i + 1) xs) + 1)) e

pub hex_no : (xs : List ℕ) (i : ℕ) → i < length xs → is_hex_digit (get_or xs i 0) ≡ false → are_hex_digits (drop i xs) ≡ false
hex_no xs i h e = hex_step xs i h ∙ ap (λ (t : Bool). t && are_hex_digits (drop (i + 1) xs)) e

pub hex_yes : (xs : List ℕ) (i : ℕ) → i < length xs → is_hex_digit (get_or xs i 0) ≡ true
    → are_hex_digits (drop i xs) ≡ are_hex_digits (drop (i + 1) xs)
hex_yes xs i h e = hex_step xs i h ∙ ap (λ (t : Bool). t && are_hex_digits (drop (i + 1) xs)) e

-- ---- lines, taken one by one

pub said_step : (rest front behind : List ℕ) (p : ℕ) (g h : ReaderStateView) → 0 < length rest → p ≡ index_of_byte 10 rest
    → front ≡ take p rest → behind ≡ drop (p + 1) rest
    → h ≡ with_line front g → with_lines (lines behind) h ≡ with_lines (lines rest) g
unfolding with_lines
said_step rest front behind p g h some is f b w =
    ap (λ (ls : List ℕ). with_lines (lines ls) h) b
    ∙ ap (with_lines (lines (drop (p + 1) rest))) (w ∙ ap (λ (x : List ℕ). with_line x g) f)
    ∙ ap (λ (ls : List (List ℕ)). with_lines ls g) (sym (first_line_of rest p some is))

pub said_end : (rest : List ℕ) (g : ReaderStateView) → length rest ≡ 0 → with_lines (lines rest) g ≡ g
unfolding with_lines lines
said_end [] g h = refl
said_end (b ∷ bs) g h = absurd (omega arith)

pub ok_mono : {T E : Type 0} (P Q : T → Type 0) (r : Result T E) → ((x : T) → P x → Q x) → IfOk r P → IfOk r Q
ok_mono P Q (Ok x) f h = f x h
ok_mono P Q (Err e) f h = tt

pub not_no : (t : Bool) → not t ≡ false → t ≡ true
not_no true h = refl
not_no false h = sym h

-- ---- numbers of jobs

both_false : (a b : Bool) → (a ≡ true → b ≡ true → ⊥) → (a && b) ≡ false
both_false true true h = absurd (h refl refl)
both_false true false h = refl
both_false false b h = refl

rising_step : (before last : ℕ) (xs : List ℕ) (i : ℕ) → i < length xs → are_increasing before last (drop i xs)
    ≡ (nat_lt before (get_or xs i 0) && (nat_le (get_or xs i 0) last
    && are_increasing (get_or xs i 0) last (drop (i + 1) xs)))
unfolding are_increasing
rising_step before last xs i h = at_drop_more (are_increasing before last) xs i 0 h

pub rising_end : (before last : ℕ) (xs : List ℕ) (i : ℕ) → length xs ≤ i → are_increasing before last (drop i xs) ≡ true
unfolding are_increasing
rising_end before last xs i h = at_drop_all (are_increasing before last) xs i h

pub rising_no : (before last : ℕ) (xs : List ℕ) (i : ℕ) → i < length xs
    → (before < get_or xs i 0 → get_or xs i 0 ≤ last → ⊥) → are_increasing before last (drop i xs) ≡ false
rising_no before last xs i h never =
    let x = get_or xs i 0 in
    let later = are_increasing x last (drop (i + 1) xs) in
    rising_step before last xs i h
    ∙ both_false (nat_lt before x) (nat_le x last && later)
    (λ low high. never (grind (arith, nat_tests))
    (let first = (and_parts (nat_le x last) later high).0 in grind (arith, nat_tests)))

pub rising_on : (before last : ℕ) (xs : List ℕ) (i : ℕ) → i < length xs → before < get_or xs i 0 → get_or xs i 0 ≤ last
    → are_increasing before last (drop i xs) ≡ are_increasing (get_or xs i 0) last (drop (i + 1) xs)
rising_on before last xs i h low high =
    let x = get_or xs i 0 in
    let later = are_increasing x last (drop (i + 1) xs) in
    let a : nat_lt before x ≡ true = grind (arith, nat_tests) in
    let b : nat_le x last ≡ true = grind (arith, nat_tests) in
    rising_step before last xs i h ∙ ap (λ (t : Bool). t && (nat_le x last && later)) a
    ∙ ap (λ (t : Bool). t && later) b

stepped_step : (next step last : ℕ) (xs : List ℕ) (i : ℕ) → i < length xs → are_evenly_spaced next step last (drop i xs)
    ≡ ((get_or xs i 0 == next) && (nat_le (get_or xs i 0) last
    && are_evenly_spaced (next + step) step last (drop (i + 1) xs)))
unfolding are_evenly_spaced
stepped_step next step last xs i h = at_drop_more (are_evenly_spaced next step last) xs i 0 h

pub stepped_end : (next step last : ℕ) (xs : List ℕ) (i : ℕ) → length xs ≤ i
    → are_evenly_spaced next step last (drop i xs) ≡ nat_lt last next
unfolding are_evenly_spaced
stepped_end next step last xs i h = at_drop_all (are_evenly_spaced next step last) xs i h

pub stepped_no : (next step last : ℕ) (xs : List ℕ) (i : ℕ) → i < length xs
    → (get_or xs i 0 ≡ next → get_or xs i 0 ≤ last → ⊥) → are_evenly_spaced next step last (drop i xs) ≡ false
stepped_no next step last xs i h never =
    let x = get_or xs i 0 in
    let later = are_evenly_spaced (next + step) step last (drop (i + 1) xs) in
    stepped_step next step last xs i h
    ∙ both_false (x == next) (nat_le x last && later)
    (λ same high. never (grind (arith, nat_tests))
    (let first = (and_parts (nat_le x last) later high).0 in grind (arith, nat_tests)))

pub stepped_on : (next step last : ℕ) (xs : List ℕ) (i : ℕ) → i < length xs → get_or xs i 0 ≡ next
    → get_or xs i 0 ≤ last → are_evenly_spaced next step last (drop i xs)
    ≡ are_evenly_spaced (next + step) step last (drop (i + 1) xs)
stepped_on next step last xs i h same high =
    let x = get_or xs i 0 in
    let later = are_evenly_spaced (next + step) step last (drop (i + 1) xs) in
    let a : (x == next) ≡ true = grind (arith, nat_tests) in
    let b : nat_le x last ≡ true = grind (arith, nat_tests) in
    stepped_step next step last xs i h ∙ ap (λ (t : Bool). t && (nat_le x last && later)) a
    ∙ ap (λ (t : Bool). t && later) b

-- ---- names that are there already

names_taken : (rows : List Row) (i : ℕ) (row : Row) → i < length rows
    → row_names (take (suc i) rows) ≡ row_names (take i rows) ++ (get_or rows i row).name ∷ []
names_taken [] i row h = absurd (omega arith)
names_taken (r ∷ rows) zero row h = refl
names_taken (r ∷ rows) (suc i) row h =
    ap (λ (ts : List (List ℕ)). r.name ∷ ts) (names_taken rows i row (omega arith))

new_step : (earlier : List (List ℕ)) (rows : List Row) (i : ℕ) (row : Row) → i < length rows
    → count_before_repeated_name earlier (row_names (drop i rows))
    ≡ cond (is_some (index_in earlier (get_or rows i row).name)) 0
    (count_before_repeated_name (earlier ++ (get_or rows i row).name ∷ []) (row_names (drop (i + 1) rows)) + 1)
unfolding count_before_repeated_name
new_step earlier rows i row h = at_drop_more (λ (rs : List Row). count_before_repeated_name earlier (row_names rs)) rows i row h

pub new_end : (earlier : List (List ℕ)) (rows : List Row) (i : ℕ) → length rows ≤ i
    → count_before_repeated_name earlier (row_names (drop i rows)) ≡ 0
unfolding count_before_repeated_name
new_end earlier rows i h = at_drop_all (λ (rs : List Row). count_before_repeated_name earlier (row_names rs)) rows i h

pub new_here : (earlier : List (List ℕ)) (rows : List Row) (i : ℕ) (row : Row) (name : List ℕ) → i < length rows
    → name ≡ (get_or rows i row).name → is_some (index_in earlier name) ≡ true
    → count_before_repeated_name earlier (row_names (drop i rows)) ≡ 0
new_here earlier rows i row name h is e =
    new_step earlier rows i row h
    ∙ ap (λ (t : Bool). cond t 0 (count_before_repeated_name (earlier ++ (get_or rows i row).name ∷ [])
    (row_names (drop (i + 1) rows)) + 1))
    (ap (λ (n : List ℕ). is_some (index_in earlier n)) (sym is) ∙ e)

pub new_later : (earlier : List (List ℕ)) (rows : List Row) (i : ℕ) (row : Row) (name : List ℕ) → i < length rows
    → name ≡ (get_or rows i row).name → is_some (index_in earlier name) ≡ false
    → count_before_repeated_name earlier (row_names (drop i rows))
    ≡ count_before_repeated_name (earlier ++ name ∷ []) (row_names (drop (i + 1) rows)) + 1
new_later earlier rows i row name h is e =
    new_step earlier rows i row h
    ∙ ap (λ (t : Bool). cond t 0 (count_before_repeated_name (earlier ++ (get_or rows i row).name ∷ [])
    (row_names (drop (i + 1) rows)) + 1))
    (ap (λ (n : List ℕ). is_some (index_in earlier n)) (sym is) ∙ e)
    ∙ ap (λ (n : List ℕ). count_before_repeated_name (earlier ++ n ∷ []) (row_names (drop (i + 1) rows)) + 1) (sym is)

pub names_on : (rows : List Row) (i : ℕ) (row : Row) (name : List ℕ) → i < length rows → name ≡ (get_or rows i row).name
    → row_names (take (i + 1) rows) ≡ row_names (take i rows) ++ name ∷ []
names_on rows i row name h is =
    ap (λ (k : ℕ). row_names (take k rows)) (add-one i) ∙ names_taken rows i row h
    ∙ ap (λ (n : List ℕ). row_names (take i rows) ++ n ∷ []) (sym is)

pub nowhere : (o : Option ℕ) → is_some o ≡ false → o ≡ None
nowhere None h = refl
nowhere (Some k) h = absurd (false≢true (sym h))
