-- Steps of the loops over two lists, and what a first difference says.
use Rattle.std.proofs.Common.{◌≡◌, ◌∙◌, ◌==◌, ◌+◌, ◌<◌, ◌≤◌, ℕ, suc, Bool, true, false, cond, List, [], ◌∷◌, length}
use Rattle.std.proofs.Common.{take, drop, get_or, refl, sym, ap, arith, inl, inr, Option, Some, None}
use Rattle.std.specs.Prelude.{MatchOption, is_some, not}
use Rattle.std.proofs.lemmas.Bool.{cases_Bool, eqb-true, eqb-false, eq-eqb, ne_eqb}
use Rattle.std.specs.Bool.{Decides}
use Rattle.std.proofs.lemmas.List.{at_drop_more, at_drop_all}
use Rattle.rv_expect.specs.Difference.{difference_from, first_difference, DifferAt, DifferInLength, IsDifference}
use Rattle.rv_expect.specs.declared.difference.Difference.{Difference}
use Rattle.rv_expect.specs.declared.difference.Difference.TheVariants.{At, Lengths, Missing}

-- ---- steps of the loops

pub at_end : (place : ℕ) (xs ys : List ℕ) (i : ℕ) → length xs ≤ i → length ys ≤ i
    → difference_from place (drop i xs) (drop i ys) ≡ None
unfolding difference_from
at_end place xs ys i h k =
    at_drop_all (λ (rest : List ℕ). difference_from place rest (drop i ys)) xs i h
    ∙ at_drop_all (difference_from place []) ys i k

pub one_ends : (place : ℕ) (xs ys : List ℕ) (i : ℕ) → length xs ≤ i → i < length ys
    → difference_from place (drop i xs) (drop i ys) ≡ Some Lengths
unfolding difference_from
one_ends place xs ys i h k =
    at_drop_all (λ (rest : List ℕ). difference_from place rest (drop i ys)) xs i h
    ∙ at_drop_more (difference_from place []) ys i 0 k

pub other_ends : (place : ℕ) (xs ys : List ℕ) (i : ℕ) → i < length xs → length ys ≤ i
    → difference_from place (drop i xs) (drop i ys) ≡ Some Lengths
unfolding difference_from
other_ends place xs ys i h k =
    at_drop_more (λ (rest : List ℕ). difference_from place rest (drop i ys)) xs i 0 h
    ∙ at_drop_all (difference_from place (get_or xs i 0 ∷ drop (i + 1) xs)) ys i k

step : (place : ℕ) (xs ys : List ℕ) (i : ℕ) → i < length xs → i < length ys
    → difference_from place (drop i xs) (drop i ys)
    ≡ cond (get_or xs i 0 == get_or ys i 0) (difference_from (place + 1) (drop (i + 1) xs) (drop (i + 1) ys))
    (Some (At place))
unfolding difference_from
step place xs ys i h k =
    at_drop_more (λ (rest : List ℕ). difference_from place rest (drop i ys)) xs i 0 h
    ∙ at_drop_more (difference_from place (get_or xs i 0 ∷ drop (i + 1) xs)) ys i 0 k

pub goes_on : (place : ℕ) (xs ys : List ℕ) (i : ℕ) → i < length xs → i < length ys → get_or xs i 0 ≡ get_or ys i 0
    → difference_from place (drop i xs) (drop i ys)
    ≡ difference_from (place + 1) (drop (i + 1) xs) (drop (i + 1) ys)
goes_on place xs ys i h k same =
    step place xs ys i h k
    ∙ ap (λ (t : Bool). cond t (difference_from (place + 1) (drop (i + 1) xs) (drop (i + 1) ys)) (Some (At place)))
    (eq-eqb _ _ same)

pub differs_here : (place : ℕ) (xs ys : List ℕ) (i : ℕ) → i < length xs → i < length ys
    → (get_or xs i 0 ≡ get_or ys i 0 → ⊥)
    → difference_from place (drop i xs) (drop i ys) ≡ Some (At place)
differs_here place xs ys i h k other =
    step place xs ys i h k
    ∙ ap (λ (t : Bool). cond t (difference_from (place + 1) (drop (i + 1) xs) (drop (i + 1) ys)) (Some (At place)))
    (ne_eqb _ _ other)

-- ---- what a difference says

-- the same of lists whose first elements stand at a place
abbrev Says : ℕ → Difference → List ℕ → List ℕ → Type 0
Says place (At there) xs ys = (k : ℕ) × (there ≡ place + k) × DifferAt k xs ys
Says place Lengths xs ys = DifferInLength xs ys
Says place Missing xs ys = ⊥

abbrev SaysIf : ℕ → Option Difference → List ℕ → List ℕ → Type 0
SaysIf place d xs ys = MatchOption d (xs ≡ ys) (λ difference. Says place difference xs ys)

one_more : (place x y : ℕ) (xs ys : List ℕ) (d : Option Difference) → x ≡ y → SaysIf (place + 1) d xs ys
    → SaysIf place d (x ∷ xs) (y ∷ ys)
one_more place x y xs ys None same h = cc
one_more place x y xs ys (Some (At there)) same h =
    let at : DifferAt h.0 xs ys = h.2 in
    let is : there ≡ place + 1 + h.0 = h.1 in (
      suc h.0,
      omega arith,
      record {
        in_one = omega arith;
        in_other = omega arith;
        before = let e : take h.0 xs ≡ take h.0 ys = at.before in cc;
        there = at.there;
      },
    )
one_more place x y xs ys (Some Lengths) same h = record {
  before = let e : take (length ys) xs ≡ take (length xs) ys = h.before in cc;
  lengths = λ e. h.lengths (omega arith);
}
one_more place x y xs ys (Some Missing) same h = absurd h

says_first : (place : ℕ) (xs ys : List ℕ) → SaysIf place (difference_from place xs ys) xs ys
unfolding difference_from
says_first place [] [] = refl
says_first place [] (y ∷ ys) = record { before = refl; lengths = λ e. absurd (omega arith) }
says_first place (x ∷ xs) [] = record { before = refl; lengths = λ e. absurd (omega arith) }
says_first place (x ∷ xs) (y ∷ ys) =
    elim (cases_Bool (x == y)) [
      | inl e ↦
          rw e (one_more place x y xs ys (difference_from (place + 1) xs ys) (eqb-true x y e)
          (says_first (place + 1) xs ys))
      | inr e ↦
          rw e (
            0,
            omega arith,
            record { in_one = omega arith; in_other = omega arith; before = refl; there = eqb-false x y e },
          )
    ]

from_start : (d : Option Difference) (xs ys : List ℕ) → SaysIf 0 d xs ys
    → MatchOption d (xs ≡ ys) (λ difference. IsDifference difference xs ys)
from_start None xs ys h = h
from_start (Some (At there)) xs ys h =
    let is : h.0 ≡ there = omega (arith, h.1) in
    rw is at h.2
from_start (Some Lengths) xs ys h = h
from_start (Some Missing) xs ys h = h

pub first_differs : (xs ys : List ℕ)
    → MatchOption (first_difference xs ys) (xs ≡ ys) (λ difference. IsDifference difference xs ys)
first_differs xs ys = from_start (difference_from 0 xs ys) xs ys (says_first 0 xs ys)

-- ---- a difference is there exactly where the lists differ

differ : (d : Difference) (xs ys : List ℕ) → IsDifference d xs ys → xs ≡ ys → ⊥
differ (At place) xs ys h e = h.there (ap (λ (zs : List ℕ). get_or zs place 0) e)
differ Lengths xs ys h e = h.lengths (ap length e)
differ Missing xs ys h e = h

some_where : (d : Option Difference) (b : Bool) (xs ys : List ℕ) → Decides b (xs ≡ ys)
    → MatchOption d (xs ≡ ys) (λ difference. IsDifference difference xs ys) → is_some d ≡ not b
some_where None b xs ys decides h = ap not (sym (decides.1 h))
some_where (Some d) true xs ys decides h = absurd (differ d xs ys h (decides.0 refl))
some_where (Some d) false xs ys decides h = refl

pub is_some-first_difference : (b : Bool) (xs ys : List ℕ) → Decides b (xs ≡ ys)
    → is_some (first_difference xs ys) ≡ not b
is_some-first_difference b xs ys decides = some_where (first_difference xs ys) b xs ys decides (first_differs xs ys)
