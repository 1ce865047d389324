-- A table of which no two rows fit at once: one row at most fits, and the first row that fits is that one.
use Rattle.std.proofs.Common.{◌≡◌, ℕ, zero, suc, ◌+◌, ◌<◌, ◌≤◌, Bool, true, false, cond, ◌&&◌, List, [], ◌∷◌, length}
use Rattle.std.proofs.Common.{get_or, Some, Any, refl, sym, ◌∙◌, ap, subst, inl, inr, arith}
use Rattle.std.specs.Prelude.{count_by}
use Rattle.std.specs.List.{list_all}
use Rattle.std.proofs.lemmas.Bool.{cases_Bool, and_parts, cond-true, cond-false}
use Rattle.std.proofs.lemmas.List.Sums.{sum_by-cons}
use Rattle.rv_isa.specs.Tables.{first_match}

-- the test holds of any two rows
abbrev pub pairs_pass : {A : Type 0} → (A → A → Bool) → List A → Bool
pairs_pass test [] = true
pairs_pass test (r ∷ rs) = list_all (test r) rs && pairs_pass test rs

-- where the test holds, not both rows fit
abbrev pub KeepsApart : {A : Type 0} → (A → Bool) → (A → A → Bool) → Type 0
KeepsApart {A} fits apart = (x y : A) → apart x y ≡ true → fits x ≡ true → fits y ≡ true → ⊥

-- a test that all pass, at one place
pub all_at : {A : Type 0} (test : A → Bool) (xs : List A) (k : ℕ) (x : A) → list_all test xs ≡ true → k < length xs
    → get_or xs k x ≡ x → test x ≡ true
all_at test [] k x h l e = absurd (omega arith)
all_at test (y ∷ ys) zero x h l e = subst (λ z. test z ≡ true) e (and_parts (test y) (list_all test ys) h).0
all_at test (y ∷ ys) (suc k) x h l e = all_at test ys k x (and_parts (test y) (list_all test ys) h).1 (omega arith) e

-- the step of a count
one_more : {A : Type 0} (fits : A → Bool) (y : A) (ys : List A) → fits y ≡ true
    → count_by fits (y ∷ ys) ≡ 1 + count_by fits ys
one_more fits y ys h =
    omega (arith, sum_by-cons (λ x. cond {A = ℕ} (fits x) 1 0) y ys, cond-true {A = ℕ} (fits y) 1 0 h)

no_more : {A : Type 0} (fits : A → Bool) (y : A) (ys : List A) → fits y ≡ false
    → count_by fits (y ∷ ys) ≡ count_by fits ys
no_more fits y ys h =
    omega (arith, sum_by-cons (λ x. cond {A = ℕ} (fits x) 1 0) y ys, cond-false {A = ℕ} (fits y) 1 0 h)

-- beside a row that fits, no row fits that is kept apart from it
none_beside : {A : Type 0} (fits : A → Bool) (apart : A → A → Bool) → KeepsApart fits apart → (x : A) (ys : List A)
    → fits x ≡ true → list_all (apart x) ys ≡ true → count_by fits ys ≡ 0
none_beside fits apart sound x [] f a = refl
none_beside fits apart sound x (y ∷ ys) f a =
    let parts = and_parts (apart x y) (list_all (apart x) ys) a in
    elim (cases_Bool (fits y)) [
      | inl both ↦ absurd (sound x y parts.0 f both)
      | inr past ↦ omega (arith, no_more fits y ys past, none_beside fits apart sound x ys f parts.1)
    ]

-- where any two rows are kept apart, one at most fits
pub at_most_one : {A : Type 0} (fits : A → Bool) (apart : A → A → Bool) → KeepsApart fits apart → (xs : List A)
    → pairs_pass apart xs ≡ true → count_by fits xs ≤ 1
at_most_one fits apart sound [] p = omega arith
at_most_one fits apart sound (y ∷ ys) p =
    let parts = and_parts (list_all (apart y) ys) (pairs_pass apart ys) p in
    elim (cases_Bool (fits y)) [
      | inl here ↦ omega (arith, one_more fits y ys here, none_beside fits apart sound y ys here parts.0)
      | inr past ↦ omega (arith, no_more fits y ys past, at_most_one fits apart sound ys parts.1)
    ]

-- a row that fits is counted
counted : {A : Type 0} (fits : A → Bool) (xs : List A) (k : ℕ) (x : A) → k < length xs → get_or xs k x ≡ x
    → fits x ≡ true → 1 ≤ count_by fits xs
counted fits [] k x l e f = absurd (omega arith)
counted fits (y ∷ ys) zero x l e f = omega (arith, one_more fits y ys (subst (λ z. fits z ≡ true) (sym e) f))
counted fits (y ∷ ys) (suc k) x l e f =
    omega (arith, sum_by-cons (λ x. cond {A = ℕ} (fits x) 1 0) y ys, counted fits ys k x (omega arith) e f)

-- where one row at most fits, a row that fits is the first
pub first_match-only : {A B : Type 0} (fits : A → Bool) (give : A → B) (xs : List A) (k : ℕ) (x : A) → count_by fits xs ≤ 1
    → k < length xs → get_or xs k x ≡ x → fits x ≡ true → first_match fits give xs ≡ Some (give x)
first_match-only fits give [] k x c l e f = absurd (omega arith)
first_match-only fits give (y ∷ ys) zero x c l e f =
    cond-true (fits y) (Some (give y)) (first_match fits give ys) (subst (λ z. fits z ≡ true) (sym e) f)
    ∙ ap (λ z. Some (give z)) e
first_match-only fits give (y ∷ ys) (suc k) x c l e f =
    elim (cases_Bool (fits y)) [
      | inl here ↦ absurd (omega (arith, c, one_more fits y ys here, counted fits ys k x (omega arith) e f))
      | inr past ↦ cond-false (fits y) (Some (give y)) (first_match fits give ys) past
          ∙ first_match-only fits give ys k x (omega (arith, c, no_more fits y ys past)) (omega arith) e f
    ]

-- what is given comes from a row that fits
pub first_match-found : {A B : Type 0} (fits : A → Bool) (give : A → B) (xs : List A) (b : B)
    → first_match fits give xs ≡ Some b → Any (λ x. (fits x ≡ true) × (b ≡ give x)) xs
first_match-found fits give [] b h = cc
first_match-found fits give (y ∷ ys) b h =
    elim (cases_Bool (fits y)) [
      | inl here ↦
          (let e : Some b ≡ Some (give y) = sym h ∙ cond-true (fits y) (Some (give y)) (first_match fits give ys) here in
          (zero, y, omega arith, refl, (here, cc)))
      | inr past ↦
          (let w = first_match-found fits give ys b
          (sym (cond-false (fits y) (Some (give y)) (first_match fits give ys) past) ∙ h) in
          (suc w.0, w.1, omega (arith, w.2), w.3, w.4))
    ]
