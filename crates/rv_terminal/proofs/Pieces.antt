-- Texts that go out in their colours piece by piece.
use Rattle.std.proofs.Common.{◌≡◌, ◌∙◌, ◌+◌, ◌-◌, ◌≤◌, ℕ, List, ◌++◌, Option, ap, arith, drop, fold, length, sym, take}
use Rattle.std.proofs.Common.{length-drop, take_all}
use Rattle.std.proofs.KnownBytes.{Appends-trans}
use Rattle.std.proofs.Math.Seq.{take-add}
use Rattle.std.proofs.lemmas.List.Sums.{fold-append}
use Rattle.std.specs.Io.KnownBytes.{Appends}
use Rattle.rv_terminal.specs.Colors.{colored, position_after}
use Rattle.rv_terminal.specs.declared.line_position.LinePosition.{LinePosition}
use Rattle.rv_terminal.proofs.Sequences.{colored_append}

-- the rest of a text from a place in it on, as a slice has it
abbrev pub rest_of : List ℕ → ℕ → List ℕ
rest_of text at = take (length text - at) (drop at text)

rest_is : (text : List ℕ) (at : ℕ) → at ≤ length text → rest_of text at ≡ drop at text
rest_is text at within = take_all (length text - at) (drop at text) (omega (arith, length-drop at text))

longer_is : (text : List ℕ) (at count : ℕ) → at ≤ length text
    → take (at + count) text ≡ take at text ++ take count (rest_of text at)
longer_is text at count within =
    take-add at count text ∙ ap (λ xs. take at text ++ take count xs) (sym (rest_is text at within))

-- one piece more
pub next_place : (here there : LinePosition) (text : List ℕ) (at count : ℕ) → at ≤ length text
    → there ≡ fold position_after here (take at text)
    → fold position_after there (take count (rest_of text at)) ≡ fold position_after here (take (at + count) text)
next_place here there text at count within is =
    ap (λ position. fold position_after position (take count (rest_of text at))) is
    ∙ (sym (fold-append position_after here (take at text) (take count (rest_of text at)))
    ∙ ap (fold position_after here) (sym (longer_is text at count within)))

pub next_piece : (a b c : Option (List ℕ)) (here there : LinePosition) (text : List ℕ) (at count : ℕ) → at ≤ length text
    → there ≡ fold position_after here (take at text) → Appends a b (colored here (take at text))
    → Appends b c (colored there (take count (rest_of text at))) → Appends a c (colored here (take (at + count) text))
next_piece a b c here there text at count within is before now =
    rw (longer_is text at count within, colored_append here (take at text) (take count (rest_of text at)))
    (Appends-trans a b c (colored here (take at text)) (colored (fold position_after here (take at text))
    (take count (rest_of text at))) before (rw is at now))
