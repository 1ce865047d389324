-- What is shown of bytes is UTF-8 without control characters.
use Rattle.std.proofs.Common.{◌≡◌, ◌∙◌, ap, refl, subst, sym, ℕ, zero, suc, ◌+◌, ◌/◌, ◌%◌, ◌<◌, ◌≤◌, List, [], ◌∷◌, ◌++◌}
use Rattle.std.proofs.Common.{Bool, true, false, cond, not, append-nil, arith, drop, get_or, inl, inr, length, take}
use Rattle.std.proofs.Common.{◌-◌, get_or-drop, min, length-append, length-drop, length-take, ne_eqb}
use Rattle.std.specs.Prelude.{◌==◌, ◌&&◌, ◌||◌, Some, nat_lt, slice_get}
use Rattle.std.specs.Char.{IsScalar, encode_utf8, is_control}
use Rattle.std.specs.List.{list_all}
use Rattle.std.specs.Str.{chars, continuation_len, encode_utf8_all, is_utf8}
use Rattle.std.proofs.lemmas.Bool.{and_parts, cases_lt, false_from_ne_true, false≢true, le-ltb, lt-ltb, ltb-true, not-true, or_parts}
use Rattle.std.proofs.lemmas.Bool.Decides.{nat_tests}
use Rattle.std.proofs.lemmas.List.{get_or_append_left, take-append-drop, take_min}
use Rattle.std.proofs.lemmas.List.Elements.{All-append, All-cons, All-get_or, All-nil}
use Rattle.std.proofs.lemmas.List.Sums.{AllPass-from_list_all}
use Rattle.std.proofs.lemmas.Str.{IsUtf8-append, IsUtf8-encode, IsUtf8-from_is_utf8, IsUtf8-nil, chars-append, chars-encodes}
use Rattle.std.proofs.lemmas.Str.{chars-nil, encode_ascii, len_utf8_bounds, length-encode}
use lib.Utf8.{low_scalar, scalars}
use Rattle.hex.specs.Hex.{IsBytes, encode_with, lower_digits}
use Rattle.rv_text.specs.Printable.{IsUtf8WithoutControls, begins_with_control, begins_with_format_char, after_first_printable, escape}
use Rattle.rv_text.specs.Printable.{first_width, is_format_char}
use Rattle.rv_text.specs.Printable.{first_character_bytes, plain_first_len, printable_from, first_printable, printable_within}
use Rattle.rv_text.proofs.Pieces.{printable_within-empty, printable_within-front, printable_within-full, shown-empty, shown-front}

-- no control character, and no format character
abbrev is_hidden : ℕ → Bool
is_hidden c = is_control c || is_format_char c

abbrev IsNoControl : ℕ → Type 0
IsNoControl c = is_hidden c ≡ false

-- ---- joined texts

shown_nil : IsUtf8WithoutControls []
shown_nil = record { utf8 = IsUtf8-nil; without_controls = rw chars-nil (All-nil IsNoControl) }

shown_append : (xs ys : List ℕ) → IsUtf8WithoutControls xs → IsUtf8WithoutControls ys → IsUtf8WithoutControls (xs ++ ys)
shown_append xs ys front back = record {
  utf8 = IsUtf8-append xs ys front.utf8 back.utf8;
  without_controls = rw (chars-append xs ys front.utf8)
      (All-append IsNoControl (chars xs) (chars ys) front.without_controls back.without_controls);
}

-- ---- one character

shown_character : (c : ℕ) → IsScalar c → IsNoControl c → IsUtf8WithoutControls (encode_utf8 c)
shown_character c scalar plain =
    let one : chars (encode_utf8 c) ≡ c ∷ [] =
    ap chars (sym (append-nil (encode_utf8 c))) ∙ chars-encodes (c ∷ []) (rw scalar refl) in
    record {
      utf8 = IsUtf8-encode c scalar;
      without_controls = rw one (All-cons IsNoControl c [] plain (All-nil IsNoControl));
    }

-- ASCII without a control character
abbrev is_shown_ascii : ℕ → Bool
is_shown_ascii c = nat_lt c 128 && not (is_hidden c)

shown_ascii : (c : ℕ) → is_shown_ascii c ≡ true → IsUtf8WithoutControls (c ∷ [])
shown_ascii c is =
    let parts = and_parts (nat_lt c 128) (not (is_hidden c)) is in
    let below : c < 128 = ltb-true c 128 parts.0 in
    subst IsUtf8WithoutControls (encode_ascii c below)
    (shown_character c (low_scalar c (omega arith)) (not-true (is_hidden c) parts.1))

-- ---- a byte as an escape

digits_shown : list_all is_shown_ascii lower_digits ≡ true
digits_shown = refl

shown_digit : (k : ℕ) → k < 16 → IsUtf8WithoutControls (get_or lower_digits k 0 ∷ [])
shown_digit k below =
    shown_ascii (get_or lower_digits k 0)
    (All-get_or (λ c. is_shown_ascii c ≡ true) lower_digits k 0 below
    (AllPass-from_list_all is_shown_ascii lower_digits digits_shown))

shown_escape : (byte : ℕ) → byte < 256 → IsUtf8WithoutControls (escape byte)
unfolding encode_with
shown_escape byte below =
    let high = byte / 16 in
    let low = byte % 16 in
    shown_append (92 ∷ []) (120 ∷ get_or lower_digits high 0 ∷ get_or lower_digits low 0 ∷ []) (shown_ascii 92 refl)
    (shown_append (120 ∷ []) (get_or lower_digits high 0 ∷ get_or lower_digits low 0 ∷ []) (shown_ascii 120 refl)
    (shown_append (get_or lower_digits high 0 ∷ []) (get_or lower_digits low 0 ∷ []) (shown_digit high (omega arith))
    (shown_digit low (omega arith))))

-- ---- the character in front

-- a character has as many bytes as its first one says
first_says_length : (c : ℕ) → IsScalar c →
    continuation_len (get_or (encode_utf8 c) 0 0) + 1 ≡ length (encode_utf8 c)
unfolding encode_utf8
first_says_length c scalar =
    elim (cases_lt c 128) [
      | inl one ↦ rw (lt-ltb c 128 one, lt-ltb c 128 one) refl
      | inr more ↦ elim (cases_lt c 2048) [
        | inl two ↦
            let a : nat_lt (192 + c / 64) 128 ≡ false = le-ltb (192 + c / 64) 128 (omega arith) in
            let b : nat_lt (192 + c / 64) 224 ≡ true = lt-ltb (192 + c / 64) 224 (omega arith) in
            rw (le-ltb c 128 more, lt-ltb c 2048 two, a, b) refl
        | inr many ↦ elim (cases_lt c 65536) [
          | inl three ↦
              let a : nat_lt (224 + c / 4096) 128 ≡ false = le-ltb (224 + c / 4096) 128 (omega arith) in
              let b : nat_lt (224 + c / 4096) 224 ≡ false = le-ltb (224 + c / 4096) 224 (omega arith) in
              let d : nat_lt (224 + c / 4096) 240 ≡ true = lt-ltb (224 + c / 4096) 240 (omega arith) in
              rw (le-ltb c 128 more, le-ltb c 2048 many, lt-ltb c 65536 three, a, b, d) refl
          | inr four ↦
              let a : nat_lt (240 + c / 262144) 128 ≡ false = le-ltb (240 + c / 262144) 128 (omega arith) in
              let b : nat_lt (240 + c / 262144) 224 ≡ false = le-ltb (240 + c / 262144) 224 (omega arith) in
              let d : nat_lt (240 + c / 262144) 240 ≡ false = le-ltb (240 + c / 262144) 240 (omega arith) in
              rw (le-ltb c 128 more, le-ltb c 2048 many, le-ltb c 65536 four, a, b, d) refl
        ]
      ]
    ]

-- the UTF-8 of one character
abbrev IsCharacter : List ℕ → Type 0
IsCharacter front = (c : ℕ) × IsScalar c × (encode_utf8 c ≡ front)

-- characters of no more bytes than the first of them has are one
one_of : (front characters : List ℕ) → scalars characters ≡ true → encode_utf8_all characters ≡ front →
    0 < length front → length front ≤ continuation_len (get_or front 0 0) + 1 → IsCharacter front
one_of front [] all spelt some short = absurd (omega (arith, ap length spelt))
one_of front (c ∷ []) all spelt some short =
    (c, (and_parts _ _ all).0, sym (append-nil (encode_utf8 c)) ∙ spelt)
one_of front (c ∷ next ∷ more) all spelt some short =
    let rest = encode_utf8 next ++ encode_utf8_all more in
    let here : 0 < length (encode_utf8 c) = omega (arith, length-encode c, (len_utf8_bounds c).0) in
    let same : get_or front 0 0 ≡ get_or (encode_utf8 c) 0 0 =
    ap (λ bytes. get_or bytes 0 0) (sym spelt) ∙ get_or_append_left (encode_utf8 c) rest 0 0 here in
    absurd (omega (
      arith,
      ap (λ byte. continuation_len byte) same,
      first_says_length c (and_parts _ _ all).0,
      ap length spelt,
      length-append (encode_utf8 c) rest,
      length-append (encode_utf8 next) (encode_utf8_all more),
      length-encode next,
      (len_utf8_bounds next).0,
    ))

front_is_character : (text : List ℕ) → 0 < length text → is_utf8 (first_character_bytes text) ≡ true →
    IsCharacter (first_character_bytes text)
front_is_character text some is =
    let front = first_character_bytes text in
    let len = continuation_len (get_or text 0 0) + 1 in
    let same : get_or front 0 0 ≡ get_or text 0 0 =
    sym (get_or_append_left front (drop len text) 0 0 (omega (arith, length-take len text)))
    ∙ ap (λ bytes. get_or bytes 0 0) (take-append-drop len text) in
    let utf8 = IsUtf8-from_is_utf8 front is in
    one_of front utf8.0 utf8.1.0 utf8.1.1 (omega (arith, length-take len text))
    (omega (arith, length-take len text, ap (λ byte. continuation_len byte) same))

-- the bytes of a control character are taken for those of one
control_begins : (c : ℕ) (rest : List ℕ) → is_control c ≡ true → begins_with_control (encode_utf8 c ++ rest) ≡ true
unfolding encode_utf8
control_begins c rest is =
    elim (cases_lt c 128) [
      | inl low ↦ rw (lt-ltb c 128 low) (grind (arith, nat_tests))
      | inr high ↦
          let below : c < 2048 = grind (arith, nat_tests) in
          rw (le-ltb c 128 high, lt-ltb c 2048 below) (grind (arith, nat_tests))
    ]

-- the first character of its UTF-8
first_character : (c : ℕ) (front : List ℕ) → IsScalar c → encode_utf8 c ≡ front → slice_get (chars front) 0 ≡ Some c
first_character c front scalar spelt =
    let one : chars (encode_utf8 c) ≡ c ∷ [] =
    ap chars (sym (append-nil (encode_utf8 c))) ∙ chars-encodes (c ∷ []) (rw scalar refl) in
    ap (λ text. slice_get (chars text) 0) (sym spelt) ∙ ap (λ all. slice_get all 0) one

format_begins : (c : ℕ) (text : List ℕ) → is_utf8 (first_character_bytes text) ≡ true →
    slice_get (chars (first_character_bytes text)) 0 ≡ Some c → begins_with_format_char text ≡ is_format_char c
unfolding begins_with_format_char
format_begins c text is first = rw (is, first) refl

shown_front_character : (text : List ℕ) → 0 < length text → is_utf8 (first_character_bytes text) ≡ true →
    (begins_with_control text || begins_with_format_char text) ≡ false → IsUtf8WithoutControls (first_character_bytes text)
shown_front_character text some is hidden =
    let (plain, no_format) = or_parts (begins_with_control text) (begins_with_format_char text) hidden in
    let len = continuation_len (get_or text 0 0) + 1 in
    let (c, scalar, spelt) = front_is_character text some is in
    let whole : encode_utf8 c ++ drop len text ≡ text =
    ap (λ front. front ++ drop len text) spelt ∙ take-append-drop len text in
    let no_control : is_control c ≡ false = false_from_ne_true (is_control c) (λ control.
    false≢true (sym plain ∙ ap begins_with_control (sym whole) ∙ control_begins c (drop len text) control)) in
    let first = first_character c (first_character_bytes text) scalar spelt in
    let is_seen : is_format_char c ≡ false = sym (format_begins c text is first) ∙ no_format in
    subst IsUtf8WithoutControls spelt (shown_character c scalar (rw (no_control, is_seen) refl))

-- ---- the piece in front

shown_piece : (text : List ℕ) (utf8 control : Bool) → is_utf8 (first_character_bytes text) ≡ utf8 →
    (begins_with_control text || begins_with_format_char text) ≡ control → IsBytes text → 0 < length text →
    let plain = cond (utf8 && not control) (length (first_character_bytes text)) 0 in
    IsUtf8WithoutControls (cond (plain == 0) (escape (get_or text 0 0)) (take plain text))
shown_piece text false control is begins are some = shown_escape (get_or text 0 0) (are 0)
shown_piece text true true is begins are some = shown_escape (get_or text 0 0) (are 0)
shown_piece text true false is begins are some =
    let len = continuation_len (get_or text 0 0) + 1 in
    let front = first_character_bytes text in
    let count : length front ≡ min len (length text) = length-take len text in
    let not_empty : (length front == 0) ≡ false = ne_eqb (length front) 0 (omega arith) in
    let whole : take (length front) text ≡ front = ap (λ n. take n text) count ∙ take_min len text in
    rw (not_empty, whole) (shown_front_character text some is begins)

shown_printable_front : (text : List ℕ) → IsBytes text → 0 < length text → IsUtf8WithoutControls (first_printable text)
unfolding plain_first_len
shown_printable_front text are some =
    shown_piece text (is_utf8 (first_character_bytes text)) (begins_with_control text || begins_with_format_char text) refl refl are some

-- ---- what is behind it

bytes_behind : (count : ℕ) (text : List ℕ) → IsBytes text → IsBytes (drop count text)
bytes_behind count text are = λ i. rw (get_or-drop count text i 0) (are (count + i))

-- bytes of which fewer are left
abbrev IsShorter : List ℕ → List ℕ → Type 0
IsShorter text rest = IsBytes rest × (length rest < length text)

behind_piece : (plain : ℕ) (text : List ℕ) → IsBytes text → 0 < length text →
    IsShorter text (cond (plain == 0) (drop 1 text) (drop plain text))
behind_piece zero text are some = (bytes_behind 1 text are, omega (arith, length-drop 1 text))
behind_piece (suc count) text are some =
    let not_empty : (suc count == 0) ≡ false = ne_eqb (suc count) 0 (omega arith) in
    rw not_empty (bytes_behind (suc count) text are, omega (arith, length-drop (suc count) text))

shorter_behind : (text : List ℕ) → IsBytes text → 0 < length text → IsShorter text (after_first_printable text)
shorter_behind text = behind_piece (plain_first_len text) text

-- ---- whole texts, of at most so many bytes

shown_of_length : (n : ℕ) (text : List ℕ) → length text ≤ n → IsBytes text →
    IsUtf8WithoutControls (printable_from 0 text)
shown_of_length n [] within are = rw (shown-empty [] refl) shown_nil
shown_of_length zero (byte ∷ rest) within are = absurd (omega arith)
shown_of_length (suc n) (byte ∷ rest) within are =
    let text = byte ∷ rest in
    let some : 0 < length text = omega arith in
    let behind = shorter_behind text are some in
    rw (shown-front text some)
    (shown_append (first_printable text) (printable_from 0 (after_first_printable text))
    (shown_printable_front text are some)
    (shown_of_length n (after_first_printable text) (omega (arith, behind.1)) behind.0))

shown_within_of_length : (n room : ℕ) (text : List ℕ) → length text ≤ n → IsBytes text →
    IsUtf8WithoutControls (printable_within room 0 text)
shown_within_of_length n room [] within are = rw (printable_within-empty room [] refl) shown_nil
shown_within_of_length zero room (byte ∷ rest) within are = absurd (omega arith)
shown_within_of_length (suc n) room (byte ∷ rest) within are =
    let text = byte ∷ rest in
    let some : 0 < length text = omega arith in
    let behind = shorter_behind text are some in
    elim (cases_lt room (first_width text)) [
      | inl full ↦ rw (printable_within-full room text full) shown_nil
      | inr fits ↦
          rw (printable_within-front room text some fits)
          (shown_append (first_printable text) (printable_within (room - first_width text) 0 (after_first_printable text))
          (shown_printable_front text are some)
          (shown_within_of_length n (room - first_width text) (after_first_printable text) (omega (arith, behind.1)) behind.0))
    ]

pub shown_text : (text : List ℕ) → IsBytes text → IsUtf8WithoutControls (printable_from 0 text)
shown_text text are = shown_of_length (length text) text (omega arith) are

pub shown_within : (room : ℕ) (text : List ℕ) → IsBytes text → IsUtf8WithoutControls (printable_within room 0 text)
shown_within room text are = shown_within_of_length (length text) room text (omega arith) are
