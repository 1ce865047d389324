-- A text is shown piece by piece: a character that is shown as it is, or one byte.
use Rattle.std.proofs.Common.{◌≡◌, ap, refl, ℕ, zero, suc, ◌-◌, ◌<◌, ◌≤◌, List, [], ◌∷◌, ◌++◌, length, take, drop}
use Rattle.std.proofs.Common.{arith, ◌==◌, ne_eqb, false, cond}
use Rattle.std.proofs.lemmas.Bool.{false_from_ne_true, le-ltb, lt-ltb}
use Rattle.std.proofs.lemmas.Str.{IsUtf8-from_is_utf8}
use Rattle.std.specs.Str.{IsUtf8, is_utf8}
use Rattle.rv_text.specs.Printable.{after_first_printable, escape, first_width, first_printable, plain_first_len}
use Rattle.rv_text.specs.Printable.{printable_from, printable_within}

-- what is left of a character goes out as it is
printable_from-left : (left : ℕ) (text : List ℕ) →
    printable_from left text ≡ take left text ++ printable_from 0 (drop left text)
unfolding printable_from
printable_from-left zero [] = refl
printable_from-left zero (byte ∷ rest) = refl
printable_from-left (suc left) [] = refl
printable_from-left (suc left) (byte ∷ rest) = ap (λ xs. byte ∷ xs) (printable_from-left left rest)

printable_within-left : (room left : ℕ) (text : List ℕ) →
    printable_within room left text ≡ take left text ++ printable_within room 0 (drop left text)
unfolding printable_within
printable_within-left room zero [] = refl
printable_within-left room zero (byte ∷ rest) = refl
printable_within-left room (suc left) [] = refl
printable_within-left room (suc left) (byte ∷ rest) =
    ap (λ xs. byte ∷ xs) (printable_within-left room left rest)

-- a piece, and then what is made of the text behind it: for any such function of what is left and a text
piece : (f : ℕ → List ℕ → List ℕ) →
    ((left : ℕ) (text : List ℕ) → f left text ≡ take left text ++ f 0 (drop left text)) →
    (byte : ℕ) (rest : List ℕ) (count : ℕ) →
    cond (count == 0) (escape byte) (byte ∷ []) ++ f (count - 1) rest
    ≡ cond (count == 0) (escape byte) (take count (byte ∷ rest))
    ++ f 0 (cond (count == 0) (drop 1 (byte ∷ rest)) (drop count (byte ∷ rest)))
piece f splits byte rest zero = refl
piece f splits byte rest (suc count) =
    let some : (suc count == 0) ≡ false = ne_eqb (suc count) 0 (omega arith) in
    let one_less : suc count - 1 ≡ count = omega arith in
    rw (some, one_less) (ap (λ xs. byte ∷ xs) (splits count rest))

-- a text is its first piece and what is behind it
pub shown-front : (text : List ℕ) → 0 < length text →
    printable_from 0 text ≡ first_printable text ++ printable_from 0 (after_first_printable text)
unfolding printable_from
shown-front [] some = absurd (omega arith)
shown-front (byte ∷ rest) some = piece printable_from printable_from-left byte rest (plain_first_len (byte ∷ rest))

-- the same where there is room for the piece
pub printable_within-front : (room : ℕ) (text : List ℕ) → 0 < length text → first_width text ≤ room →
    printable_within room 0 text
    ≡ first_printable text ++ printable_within (room - first_width text) 0 (after_first_printable text)
unfolding printable_within
printable_within-front room [] some fits = absurd (omega arith)
printable_within-front room (byte ∷ rest) some fits =
    let width = first_width (byte ∷ rest) in
    rw (le-ltb room width fits) (piece (printable_within (room - width)) (printable_within-left (room - width)) byte rest
    (plain_first_len (byte ∷ rest)))

-- and where there is none
pub printable_within-full : (room : ℕ) (text : List ℕ) → room < first_width text → printable_within room 0 text ≡ []
unfolding printable_within
printable_within-full room [] full = refl
printable_within-full room (byte ∷ rest) full = rw (lt-ltb room (first_width (byte ∷ rest)) full) refl

-- nothing is shown of an empty text
pub shown-empty : (text : List ℕ) → length text ≡ 0 → printable_from 0 text ≡ []
unfolding printable_from
shown-empty [] none = refl
shown-empty (byte ∷ rest) none = absurd (omega arith)

pub printable_within-empty : (room : ℕ) (text : List ℕ) → length text ≡ 0 → printable_within room 0 text ≡ []
unfolding printable_within
printable_within-empty room [] none = refl
printable_within-empty room (byte ∷ rest) none = absurd (omega arith)

-- what is not UTF-8 is not by the test
pub is_utf8-false : (text : List ℕ) → ¬ (IsUtf8 text) → is_utf8 text ≡ false
is_utf8-false text refused =
    false_from_ne_true _ (λ yes. refused (IsUtf8-from_is_utf8 text yes))
