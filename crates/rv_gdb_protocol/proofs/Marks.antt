-- Texts with a mark between them, and the places of marks.
use Rattle.std.proofs.Common.{◌≡◌, ◌∷◌, ◌+◌, ◌++◌, ◌<◌, ◌≤◌, ◌==◌, ◌∙◌, inl, inr, [], ℕ, suc, List, Bool, true, false, not, append_assoc, Option, Some, None, ltb, fold, take, drop, length, refl, ap, sym, arith, length-append}
use Rattle.std.proofs.Math.Seq.{drop-append-add, take-append-add, take-append_seam}
use Rattle.std.proofs.lemmas.Bool.{and_from, and_parts, cases_eq, cond-false, cond-true, eq-eqb, le-ltb, lt-ltb, ltb-false, ltb-true, ne_eqb, not_from_false}
use Rattle.std.proofs.lemmas.List.Folds.{list_all-append}
use Rattle.std.specs.List.{list_all, prefix_len}
use Rattle.hex.specs.Hex.{hex_digit_value}
use Rattle.rv_gdb_protocol.specs.Grammar.{AreTwoNumbers, joined_by}
use Rattle.rv_gdb_protocol.specs.Numbers.{with_hex_digit, parse_number, parse_two_numbers, delimiter_index, text_before, with_digit}
use Rattle.rv_gdb_protocol.specs.Requests.{comma}

-- a byte that is not a mark
abbrev pub is_other : ℕ → ℕ → Bool
is_other delimiter byte = not (byte == delimiter)

-- ---- the place of a mark

prefix_up_to : (delimiter : ℕ) (first second : List ℕ) → list_all (is_other delimiter) first ≡ true
    → prefix_len (is_other delimiter) (joined_by delimiter first second) ≡ length first
prefix_up_to delimiter [] second others = rw (eq-eqb delimiter delimiter refl) refl
prefix_up_to delimiter (byte ∷ first) second others =
    let parts = and_parts (is_other delimiter byte) (list_all (is_other delimiter) first) others in
    let rest = prefix_up_to delimiter first second parts.1 in
    cond-true (is_other delimiter byte) (1 + prefix_len (is_other delimiter) (joined_by delimiter first second)) 0 parts.0 ∙ omega (arith, rest)

pub place_between : (delimiter : ℕ) (first second : List ℕ) → list_all (is_other delimiter) first ≡ true
    → delimiter_index delimiter (joined_by delimiter first second) ≡ Some (length first)
place_between delimiter first second others =
    let text : List ℕ = joined_by delimiter first second in
    let at : prefix_len (is_other delimiter) text ≡ length first = prefix_up_to delimiter first second others in
    let long : length text ≡ length first + suc (length second) = length-append first (delimiter ∷ second) in
    cond-true (ltb (prefix_len (is_other delimiter) text) (length text)) (Some (prefix_len (is_other delimiter) text)) None
    (lt-ltb (prefix_len (is_other delimiter) text) (length text) (omega arith))
    ∙ ap (λ (k : ℕ). Some k) at

pub before_mark : (delimiter : ℕ) (first second : List ℕ) → take (length first) (joined_by delimiter first second) ≡ first
before_mark delimiter first second = take-append_seam first (delimiter ∷ second)

pub behind_mark : (delimiter : ℕ) (first second : List ℕ) → drop (length first + 1) (joined_by delimiter first second) ≡ second
behind_mark delimiter first second = drop-append-add first (delimiter ∷ second) 1

-- ---- digits

nothing_on : (text : List ℕ) → fold with_hex_digit None text ≡ None
nothing_on [] = refl
nothing_on (byte ∷ text) = nothing_on text

digit_or_none : (value : Option ℕ) (byte delimiter : ℕ) → hex_digit_value delimiter ≡ None → byte ≡ delimiter → with_hex_digit value byte ≡ None
digit_or_none (Some value) byte delimiter none same = ap (with_digit (Some value)) (ap hex_digit_value same ∙ none)
digit_or_none None byte delimiter none same = refl

-- a mark is no digit, so there is none in digits
digits_lack : (delimiter : ℕ) → hex_digit_value delimiter ≡ None → (value : Option ℕ) (text : List ℕ) (number : ℕ)
    → fold with_hex_digit value text ≡ Some number → list_all (is_other delimiter) text ≡ true
digits_lack delimiter none value [] number told = refl
digits_lack delimiter none value (byte ∷ text) number told =
    and_from (is_other delimiter byte) (list_all (is_other delimiter) text)
    (elim (cases_eq byte delimiter) [
      | inl same ↦
          let lost = ap (λ (v : Option ℕ). fold with_hex_digit v text) (digit_or_none value byte delimiter none same) ∙ nothing_on text in
          absurd (cc (sym lost, told))
      | inr other ↦ not_from_false (byte == delimiter) (ne_eqb byte delimiter other)
    ])
    (digits_lack delimiter none (with_hex_digit value byte) text number told)

folded : (text : List ℕ) (number : ℕ) → parse_number text ≡ Some number → fold with_hex_digit (Some 0) text ≡ Some number
unfolding parse_number
folded text number told = grind arith

pub number_lacks : (delimiter : ℕ) → hex_digit_value delimiter ≡ None → (text : List ℕ) (number : ℕ) → parse_number text ≡ Some number
    → list_all (is_other delimiter) text ≡ true
number_lacks delimiter none text number told = digits_lack delimiter none (Some 0) text number (folded text number told)

-- ---- two numbers

pub two_numbers : (text : List ℕ) (first second : ℕ) → AreTwoNumbers text first second → parse_two_numbers comma text ≡ Some (first, second)
unfolding parse_two_numbers
two_numbers text first second tells =
    let index = place_between comma tells.first_digits tells.second_digits (number_lacks comma refl tells.first_digits first tells.first_is) in
    rw (
      tells.text_is,
      index,
      before_mark comma tells.first_digits tells.second_digits,
      behind_mark comma tells.first_digits tells.second_digits,
      tells.first_is,
      tells.second_is,
    ) refl

-- a mark that is neither a digit nor a comma does not stand in them
pub two_lack : (delimiter : ℕ) → hex_digit_value delimiter ≡ None → is_other delimiter comma ≡ true → (text : List ℕ) (first second : ℕ)
    → AreTwoNumbers text first second → list_all (is_other delimiter) text ≡ true
two_lack delimiter none other text first second tells =
    let front = number_lacks delimiter none tells.first_digits first tells.first_is in
    let behind = number_lacks delimiter none tells.second_digits second tells.second_is in
    rw (tells.text_is, list_all-append (is_other delimiter) tells.first_digits (comma ∷ tells.second_digits))
    (and_from (list_all (is_other delimiter) tells.first_digits) (list_all (is_other delimiter) (comma ∷ tells.second_digits)) front
    (and_from (is_other delimiter comma) (list_all (is_other delimiter) tells.second_digits) other behind))

-- ---- where there is no mark

prefix_of_all : (delimiter : ℕ) (text : List ℕ) → list_all (is_other delimiter) text ≡ true
    → prefix_len (is_other delimiter) text ≡ length text
prefix_of_all delimiter [] others = refl
prefix_of_all delimiter (byte ∷ text) others =
    let parts = and_parts (is_other delimiter byte) (list_all (is_other delimiter) text) others in
    let rest = prefix_of_all delimiter text parts.1 in
    cond-true (is_other delimiter byte) (1 + prefix_len (is_other delimiter) text) 0 parts.0 ∙ omega (arith, rest)

no_place : (delimiter : ℕ) (text : List ℕ) → list_all (is_other delimiter) text ≡ true → delimiter_index delimiter text ≡ None
no_place delimiter text others =
    let all = prefix_of_all delimiter text others in
    cond-false (ltb (prefix_len (is_other delimiter) text) (length text)) (Some (prefix_len (is_other delimiter) text)) None
    (le-ltb (prefix_len (is_other delimiter) text) (length text) (omega (arith, all)))

pub until_all : (delimiter : ℕ) (text : List ℕ) → list_all (is_other delimiter) text ≡ true → text_before delimiter text ≡ text
unfolding text_before
until_all delimiter text others = rw (no_place delimiter text others) refl

-- ---- what stands before a mark

prefix_on : (delimiter : ℕ) (front rest : List ℕ) → list_all (is_other delimiter) front ≡ true
    → prefix_len (is_other delimiter) (front ++ rest) ≡ length front + prefix_len (is_other delimiter) rest
prefix_on delimiter [] rest others = omega arith
prefix_on delimiter (byte ∷ front) rest others =
    let parts = and_parts (is_other delimiter byte) (list_all (is_other delimiter) front) others in
    let later = prefix_on delimiter front rest parts.1 in
    cond-true (is_other delimiter byte) (1 + prefix_len (is_other delimiter) (front ++ rest)) 0 parts.0 ∙ omega (arith, later)

-- the text before a mark, where nothing stands before it but the text
pub until_mark : (delimiter : ℕ) (text rest : List ℕ) → list_all (is_other delimiter) text ≡ true → text_before delimiter (joined_by delimiter text rest) ≡ text
unfolding text_before
until_mark delimiter text rest others = rw (place_between delimiter text rest others) (before_mark delimiter text rest)

-- a text in front of which a mark does not stand
until_on_cases : (delimiter : ℕ) (front rest : List ℕ) (is : Bool)
    → ltb (prefix_len (is_other delimiter) rest) (length rest) ≡ is → list_all (is_other delimiter) front ≡ true
    → text_before delimiter (front ++ rest) ≡ front ++ text_before delimiter rest
unfolding text_before
until_on_cases delimiter front rest true is others =
    let at = prefix_on delimiter front rest others in
    let k = prefix_len (is_other delimiter) rest in
    let within : k < length rest = ltb-true k (length rest) is in
    let long : length (front ++ rest) ≡ length front + length rest = length-append front rest in
    let there : delimiter_index delimiter (front ++ rest) ≡ Some (length front + k) =
    cond-true (ltb (prefix_len (is_other delimiter) (front ++ rest)) (length (front ++ rest)))
    (Some (prefix_len (is_other delimiter) (front ++ rest))) None
    (lt-ltb (prefix_len (is_other delimiter) (front ++ rest)) (length (front ++ rest)) (omega arith))
    ∙ ap (λ (n : ℕ). Some n) at in
    let here : delimiter_index delimiter rest ≡ Some k = cond-true (ltb k (length rest)) (Some k) None is in
    rw (there, here) (take-append-add front rest k)
until_on_cases delimiter front rest false is others =
    let at = prefix_on delimiter front rest others in
    let k = prefix_len (is_other delimiter) rest in
    let past : length rest ≤ k = ltb-false k (length rest) is in
    let long : length (front ++ rest) ≡ length front + length rest = length-append front rest in
    let there : delimiter_index delimiter (front ++ rest) ≡ None =
    cond-false (ltb (prefix_len (is_other delimiter) (front ++ rest)) (length (front ++ rest)))
    (Some (prefix_len (is_other delimiter) (front ++ rest))) None
    (le-ltb (prefix_len (is_other delimiter) (front ++ rest)) (length (front ++ rest)) (omega arith)) in
    let here : delimiter_index delimiter rest ≡ None = cond-false (ltb k (length rest)) (Some k) None is in
    rw (there, here) refl

-- what stands before the first of one mark and then of another, where neither stands in the text
pub until_other : (delimiter other : ℕ) (text rest : List ℕ) → list_all (is_other delimiter) text ≡ true
    → list_all (is_other other) text ≡ true → is_other delimiter other ≡ true
    → text_before other (text_before delimiter (joined_by other text rest)) ≡ text
until_other delimiter other text rest lacks lacks_other differ =
    let both : list_all (is_other delimiter) (text ++ other ∷ []) ≡ true =
    list_all-append (is_other delimiter) text (other ∷ [])
    ∙ and_from (list_all (is_other delimiter) text) (list_all (is_other delimiter) (other ∷ [])) lacks
    (and_from (is_other delimiter other) true differ refl) in
    let split : text_before delimiter (joined_by other text rest) ≡ joined_by other text (text_before delimiter rest) =
    ap (text_before delimiter) (sym (append_assoc text (other ∷ []) rest))
    ∙ until_on_cases delimiter (text ++ other ∷ []) rest (ltb (prefix_len (is_other delimiter) rest) (length rest)) refl both
    ∙ append_assoc text (other ∷ []) (text_before delimiter rest) in
    ap (text_before other) split ∙ until_mark other text (text_before delimiter rest) lacks_other
