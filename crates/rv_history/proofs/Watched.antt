-- The bytes of several watches, one after another, in others.
use Rattle.std.proofs.Common.{◌≡◌, ◌∙◌, ◌++◌, ◌+◌, ◌<◌, ◌≤◌, ◌↔◌, [], ℕ, List, ap, append-nil, append_assoc, arith, drop, eqb, get_or, length, length-append, length-drop, sym, take, true}
use Rattle.std.specs.List.{flat_map}
use Rattle.std.proofs.lemmas.Bool.{eq-eqb, eqb-true}
use Rattle.std.proofs.lemmas.Grind.{flat_map-append}
use Rattle.std.proofs.lemmas.List.{append_cancel_left, flat_map_more, nil_from_length, take-append-drop, take_more}

one_more : {X : Type 0} (f : X → List ℕ) (xs : List X) (i : ℕ) (d : X) → i < length xs
    → flat_map f (take (i + 1) xs) ≡ flat_map f (take i xs) ++ f (get_or xs i d)
one_more f xs i d within =
    ap (flat_map f) (take_more xs i d within) ∙ sym (flat_map_more f [] (take i xs) (get_or xs i d))

pub seen_more : {X : Type 0} (f : X → List ℕ) (xs : List X) (i : ℕ) (d : X) (whole rest behind : List ℕ) → i < length xs
    → whole ≡ flat_map f (take i xs) ++ rest → rest ≡ f (get_or xs i d) ++ behind
    → whole ≡ flat_map f (take (i + 1) xs) ++ behind
seen_more f xs i d whole rest behind within so_far first =
    let before = flat_map f (take i xs) in
    so_far ∙ ap (λ (bytes : List ℕ). before ++ bytes) first ∙ sym (append_assoc before (f (get_or xs i d)) behind)
    ∙ ap (λ (bytes : List ℕ). bytes ++ behind) (sym (one_more f xs i d within))

pub not_seen : {X : Type 0} (f : X → List ℕ) (xs : List X) (i : ℕ) (d : X) (whole rest : List ℕ) → i < length xs
    → whole ≡ flat_map f (take i xs) ++ rest → ((behind : List ℕ) → rest ≡ f (get_or xs i d) ++ behind → ⊥)
    → flat_map f xs ≡ whole → ⊥
not_seen f xs i d whole rest within so_far other same =
    let before = flat_map f (take i xs) in
    let here = f (get_or xs i d) in
    let more = flat_map f (drop (i + 1) xs) in
    let parts : flat_map f xs ≡ before ++ (here ++ more) =
    ap (flat_map f) (sym (take-append-drop (i + 1) xs)) ∙ flat_map-append f (take (i + 1) xs) (drop (i + 1) xs)
    ∙ ap (λ (bytes : List ℕ). bytes ++ more) (one_more f xs i d within) ∙ append_assoc before here more in
    other more (append_cancel_left before rest (here ++ more) (sym so_far ∙ sym same ∙ parts))

-- all of them stand there, up to a place, which is the end or is not
pub all_seen : (all whole : List ℕ) (seen : ℕ) → seen ≤ length whole → whole ≡ all ++ drop seen whole
    → (eqb seen (length whole) ≡ true) ↔ (all ≡ whole)
all_seen all whole seen within so_far =
    let left = length-drop seen whole in (
      λ end.
          let is = eqb-true seen (length whole) end in
          sym (so_far ∙ ap (λ (bytes : List ℕ). all ++ bytes) (nil_from_length (drop seen whole) (omega (arith, left, is)))
          ∙ append-nil all),
      λ same.
          let sum = length-append all (drop seen whole) in
          let one = ap length so_far in
          let other = ap length same in
          eq-eqb seen (length whole) (omega (arith, within, left, sum, one, other)),
    )
