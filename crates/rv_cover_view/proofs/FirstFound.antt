-- The first element that is found, and none so far.
use Rattle.std.proofs.Common.{◌≡◌, ◌∙◌, ◌+◌, ◌<◌, ◌∷◌, [], ℕ, zero, suc, Bool, true, false, List, Some, None, ap, arith, cond, find, get_or, length, refl, sym, take}
use Rattle.std.proofs.lemmas.List.{take_more}
use Rattle.std.proofs.lemmas.List.Folds.{find-append}

some_is_no_none : {X : Type 0} {x : X} → Some x ≡ None → ⊥
some_is_no_none is = cc

module _ {X : Type 0} (test : X → Bool) where
  pub found_first : (xs : List X) (i : ℕ) (x : X) → i < length xs → find test (take i xs) ≡ None → test (get_or xs i x) ≡ true
      → find test xs ≡ Some (get_or xs i x)
  found_first [] i x lt none is = absurd (omega (arith, lt))
  found_first (y ∷ ys) zero x lt none is = rw is refl
  found_first (y ∷ ys) (suc i) x lt none is = go (test y) refl (λ end. found_first ys i x (omega (arith, lt)) end is)
    where
      go : (first : Bool) → test y ≡ first → (find test (take i ys) ≡ None → find test ys ≡ Some (get_or ys i x))
          → find test (y ∷ ys) ≡ Some (get_or ys i x)
      go true first rest = absurd (some_is_no_none (sym (ap (λ b. cond b (Some y) (find test (take i ys))) first) ∙ none))
      go false first rest = ap (λ b. cond b (Some y) (find test ys)) first
          ∙ rest (sym (ap (λ b. cond b (Some y) (find test (take i ys))) first) ∙ none)

  pub none_more : (xs : List X) (i : ℕ) (x : X) → i < length xs → find test (take i xs) ≡ None → test (get_or xs i x) ≡ false
      → find test (take (i + 1) xs) ≡ None
  none_more xs i x lt none is = ap (find test) (take_more xs i x lt) ∙ find-append test (take i xs) (get_or xs i x ∷ [])
      ∙ rw (none, is) refl
