-- The parts that numbers make of a list have all of it.
use Rattle.std.proofs.Common.{◌≡◌, ◌==◌, ◌+◌, ◌<◌, ◌≤◌, ℕ, zero, suc, Bool, true, false, cond, List, [], ◌∷◌, ◌++◌, refl, sym, ap, subst, arith, inl, inr}
use Rattle.std.proofs.lemmas.Bool.Decides.{eqb_tells}
use Rattle.std.proofs.lemmas.List.Sorted.{IsPermutation-append_right, IsPermutation-middle, IsPermutation-refl, IsPermutation-sym, IsPermutation-trans, IsPermutation-cons}
use Rattle.std.specs.List.{filter}
use Rattle.std.specs.List.Sorted.{IsPermutation}

module _ (part : ℕ → ℕ) where
  -- the parts of so many numbers, from one on, one behind another
  abbrev pub joined_parts : ℕ → ℕ → List ℕ → List ℕ
  joined_parts from zero xs = []
  joined_parts from (suc n) xs = filter (λ x. part x == from) xs ++ joined_parts (from + 1) n xs

  kept_here : (t : Bool) (x : ℕ) (ys : List ℕ) → t ≡ true → cond t (x ∷ ys) ys ≡ x ∷ ys
  kept_here t x ys h = ap (λ b. cond b (x ∷ ys) ys) h

  not_here : (t : Bool) (x : ℕ) (ys : List ℕ) → t ≡ false → cond t (x ∷ ys) ys ≡ ys
  not_here t x ys h = ap (λ b. cond b (x ∷ ys) ys) h

  differs : (a b : ℕ) → (a ≡ b → ⊥) → (a == b) ≡ false
  differs a b h = elim (eqb_tells a b) [ inl k ↦ absurd (h k.1) | inr k ↦ k.0 ]

  same : (a b : ℕ) → a ≡ b → (a == b) ≡ true
  same a b h = elim (eqb_tells a b) [ inl k ↦ k.0 | inr k ↦ absurd (k.1 h) ]

  -- a number of a lower part
  below : (from n x : ℕ) (xs : List ℕ) → part x < from → joined_parts from n (x ∷ xs) ≡ joined_parts from n xs
  below from zero x xs lt = refl
  below from (suc n) x xs lt =
      let here = not_here (part x == from) x (filter (λ x. part x == from) xs)
      (differs (part x) from (λ e. omega (arith, lt, e))) in
      let rest = below (from + 1) n x xs (omega arith) in
      λ i. here i ++ rest i

  -- a number of one of the parts stands in it
  within : (from n x : ℕ) (xs : List ℕ) → from ≤ part x → part x < from + n
      → IsPermutation (x ∷ joined_parts from n xs) (joined_parts from n (x ∷ xs))
  within from zero x xs le lt = absurd (omega arith)
  within from (suc n) x xs le lt =
      let front = filter (λ x. part x == from) xs in
      let back = joined_parts (from + 1) n xs in
      elim (eqb_tells (part x) from) [
        | inl h ↦ subst (IsPermutation (x ∷ (front ++ back)))
            (let here = kept_here (part x == from) x front h.0 in
            let rest = below (from + 1) n x xs (let e = h.1 in omega (arith, e)) in
            λ i. sym here i ++ sym rest i)
            (IsPermutation-refl (x ∷ (front ++ back)))
        | inr h ↦ subst (IsPermutation (x ∷ (front ++ back)))
            (let here = not_here (part x == from) x front h.0 in
            λ i. sym here i ++ joined_parts (from + 1) n (x ∷ xs))
            (IsPermutation-trans (x ∷ (front ++ back)) (front ++ x ∷ back) (front ++ joined_parts (from + 1) n (x ∷ xs))
            (IsPermutation-sym (front ++ x ∷ back) (x ∷ (front ++ back)) (IsPermutation-middle front x back))
            (IsPermutation-append_right front (x ∷ back) (joined_parts (from + 1) n (x ∷ xs))
            (within (from + 1) n x xs (later (part x) from le h.1) (omega arith))))
      ]
    where
      later : (a b : ℕ) → b ≤ a → (a ≡ b → ⊥) → b + 1 ≤ a
      later a b le ne = omega arith

  pub all_parts : (n : ℕ) (xs : List ℕ) → ((x : ℕ) → part x < n) → IsPermutation (joined_parts 0 n xs) xs
  all_parts n [] lt = subst (λ ys. IsPermutation ys []) (sym (none 0 n)) (IsPermutation-refl [])
    where
      none : (from n : ℕ) → joined_parts from n [] ≡ []
      none from zero = refl
      none from (suc n) = none (from + 1) n
  all_parts n (x ∷ xs) lt =
      IsPermutation-trans (joined_parts 0 n (x ∷ xs)) (x ∷ joined_parts 0 n xs) (x ∷ xs)
      (IsPermutation-sym (x ∷ joined_parts 0 n xs) (joined_parts 0 n (x ∷ xs))
      (within 0 n x xs (omega arith) (let l = lt x in omega (arith, l))))
      (IsPermutation-cons x (joined_parts 0 n xs) xs (all_parts n xs lt))
