-- The order of bytes is total, so of several paths the same one comes first, whichever two are compared first.
use Rattle.std.proofs.Common.{◌≡◌, ◌∙◌, ◌<◌, ◌⊎◌, inl, inr, ℕ, zero, true, false, List, [], ◌∷◌, Option, Some, None, refl, sym, ap, arith}
use Rattle.std.proofs.lemmas.Bool.{cases_Bool, cases_order, cond-true, cond-false, both_ways}
use Rattle.rv_count_tables.specs.Table.{is_before, min_text, min_text_of}
use Rattle.rv_count_tables.proofs.ByteOrder.{less, more, same}

-- ---- two texts, by their first bytes

first_less : (x y : ℕ) (xs ys : List ℕ) → x < y → is_before (x ∷ xs) (y ∷ ys) ≡ true
first_less x y xs ys h = less (x ∷ xs) (y ∷ ys) zero (omega arith) (omega arith) h

first_more : (x y : ℕ) (xs ys : List ℕ) → y < x → is_before (x ∷ xs) (y ∷ ys) ≡ false
first_more x y xs ys h = more (x ∷ xs) (y ∷ ys) zero (omega arith) (omega arith) h

first_same : (x y : ℕ) (xs ys : List ℕ) → x ≡ y → is_before (x ∷ xs) (y ∷ ys) ≡ is_before xs ys
first_same x y xs ys h = same (x ∷ xs) (y ∷ ys) zero (omega arith) (omega arith) h

cases_before : (x y : ℕ) (xs ys : List ℕ) → is_before (x ∷ xs) (y ∷ ys) ≡ true
    → (x < y) ⊎ ((x ≡ y) × (is_before xs ys ≡ true))
cases_before x y xs ys h = elim (cases_order x y) [
  | inl e ↦ inr (e, sym (first_same x y xs ys e) ∙ h)
  | inr (inl l) ↦ inl l
  | inr (inr l) ↦ absurd (both_ways _ (first_more x y xs ys l) h)
]

cases_not_before : (x y : ℕ) (xs ys : List ℕ) → is_before (x ∷ xs) (y ∷ ys) ≡ false
    → (y < x) ⊎ ((x ≡ y) × (is_before xs ys ≡ false))
cases_not_before x y xs ys h = elim (cases_order x y) [
  | inl e ↦ inr (e, sym (first_same x y xs ys e) ∙ h)
  | inr (inl l) ↦ absurd (both_ways _ h (first_less x y xs ys l))
  | inr (inr l) ↦ inl l
]

-- ---- the order is total

pub none_before_itself : (a : List ℕ) → is_before a a ≡ false
unfolding is_before
none_before_itself [] = refl
none_before_itself (x ∷ xs) = first_same x x xs xs refl ∙ none_before_itself xs

pub before_both : (a b c : List ℕ) → is_before a b ≡ true → is_before b c ≡ true → is_before a c ≡ true
unfolding is_before
before_both a [] c h k = absurd (both_ways _ refl h)
before_both a (y ∷ b) [] h k = absurd (both_ways _ refl k)
before_both [] (y ∷ b) (z ∷ c) h k = refl
before_both (x ∷ a) (y ∷ b) (z ∷ c) h k = elim (cases_before x y a b h) [
  | inl l ↦ elim (cases_before y z b c k) [
    | inl m ↦ first_less x z a c (omega arith)
    | inr m ↦ first_less x z a c (omega (arith, l, m.0))
  ]
  | inr l ↦ elim (cases_before y z b c k) [
    | inl m ↦ first_less x z a c (omega (arith, l.0, m))
    | inr m ↦ first_same x z a c (l.0 ∙ m.0) ∙ before_both a b c l.1 m.1
  ]
]

pub not_before_back : (a b : List ℕ) → is_before a b ≡ true → is_before b a ≡ false
not_before_back a b h = elim (cases_Bool (is_before b a)) [
  | inl k ↦ absurd (both_ways _ (none_before_itself a) (before_both a b a h k))
  | inr k ↦ k
]

pub same_place : (a b : List ℕ) → is_before a b ≡ false → is_before b a ≡ false → a ≡ b
unfolding is_before
same_place [] [] h k = refl
same_place [] (y ∷ b) h k = absurd (both_ways _ h refl)
same_place (x ∷ a) [] h k = absurd (both_ways _ k refl)
same_place (x ∷ a) (y ∷ b) h k = elim (cases_not_before x y a b h) [
  | inl l ↦ elim (cases_not_before y x b a k) [
    | inl m ↦ absurd (omega arith)
    | inr m ↦ absurd (omega (arith, l, m.0))
  ]
  | inr l ↦ elim (cases_not_before y x b a k) [
    | inl m ↦ absurd (omega (arith, l.0, m))
    | inr m ↦ λ i. l.0 i ∷ same_place a b l.1 m.1 i
  ]
]

-- ---- the first of several

taken_other : (p q : List ℕ) → is_before q p ≡ true → min_text p q ≡ q
taken_other p q h = cond-true (is_before q p) q p h

kept_first : (p q : List ℕ) → is_before q p ≡ false → min_text p q ≡ p
kept_first p q h = cond-false (is_before q p) q p h

either_path : (p q : List ℕ) → min_text p q ≡ min_text q p
either_path p q = elim (cases_Bool (is_before q p)) [
  | inl h ↦ taken_other p q h ∙ sym (kept_first q p (not_before_back q p h))
  | inr h ↦ elim (cases_Bool (is_before p q)) [
    | inl k ↦ kept_first p q h ∙ sym (taken_other q p k)
    | inr k ↦ kept_first p q h ∙ same_place p q k h ∙ sym (kept_first q p k)
  ]
]

-- nothing before the second is before the first, where the second isn't
pub not_before_less : (p q r : List ℕ) → is_before q p ≡ false → is_before r q ≡ false → is_before r p ≡ false
not_before_less p q r h k = elim (cases_Bool (is_before r p)) [
  | inr n ↦ n
  | inl t ↦ elim (cases_Bool (is_before p q)) [
    | inl m ↦ absurd (both_ways _ k (before_both r p q t m))
    | inr m ↦ absurd (both_ways _ k (ap (λ (s : List ℕ). is_before r s) (sym (same_place p q m h)) ∙ t))
  ]
]

any_path_first : (p q r : List ℕ) → min_text (min_text p q) r ≡ min_text p (min_text q r)
any_path_first p q r = elim (cases_Bool (is_before q p)) [
  | inl h ↦ ap (λ (s : List ℕ). min_text s r) (taken_other p q h) ∙ elim (cases_Bool (is_before r q)) [
    | inl k ↦ taken_other q r k ∙ sym (taken_other p r (before_both r q p k h))
        ∙ sym (ap (λ (s : List ℕ). min_text p s) (taken_other q r k))
    | inr k ↦ kept_first q r k ∙ sym (taken_other p q h)
        ∙ sym (ap (λ (s : List ℕ). min_text p s) (kept_first q r k))
  ]
  | inr h ↦ ap (λ (s : List ℕ). min_text s r) (kept_first p q h) ∙ elim (cases_Bool (is_before r q)) [
    | inl k ↦ sym (ap (λ (s : List ℕ). min_text p s) (taken_other q r k))
    | inr k ↦ kept_first p r (not_before_less p q r h k) ∙ sym (kept_first p q h)
        ∙ sym (ap (λ (s : List ℕ). min_text p s) (kept_first q r k))
  ]
]

pub none_behind : (a : Option (List ℕ)) → min_text_of a None ≡ a
none_behind None = refl
none_behind (Some p) = refl

pub either : (a b : Option (List ℕ)) → min_text_of a b ≡ min_text_of b a
either None None = refl
either None (Some q) = refl
either (Some p) None = refl
either (Some p) (Some q) = ap (λ (s : List ℕ). Some s) (either_path p q)

pub any_first : (a b c : Option (List ℕ)) → min_text_of (min_text_of a b) c ≡ min_text_of a (min_text_of b c)
any_first None b c = refl
any_first (Some p) None c = refl
any_first (Some p) (Some q) None = refl
any_first (Some p) (Some q) (Some r) = ap (λ (s : List ℕ). Some s) (any_path_first p q r)

-- the second goes ahead of both
pub second_first : (a b c : Option (List ℕ)) → min_text_of b (min_text_of a c) ≡ min_text_of a (min_text_of b c)
second_first a b c = sym (any_first b a c) ∙ ap (λ s. min_text_of s c) (either b a) ∙ any_first a b c

-- two of each, in either order
pub by_two : (a b c d : Option (List ℕ))
    → min_text_of (min_text_of a b) (min_text_of c d) ≡ min_text_of (min_text_of a c) (min_text_of b d)
by_two a b c d = any_first a b (min_text_of c d) ∙ ap (λ s. min_text_of a s) (second_first c b d)
    ∙ sym (any_first a c (min_text_of b d))
