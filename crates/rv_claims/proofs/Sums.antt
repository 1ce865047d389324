-- Sums over lists that change at one place, and histories.
use Rattle.std.proofs.Common.{◌≡◌, ℕ, zero, suc, ◌+◌, ◌<◌, ◌≤◌, ◌≢◌, ◌⊎◌, List, [], ◌∷◌, ◌++◌, map, length, set, sym}
use Rattle.std.proofs.Common.{refl, ap, ◌∙◌, subst, inl, inr, ⊎_elim, arith, cond, eqb, eq-eqb, ne_eqb, max, Bool, ◌&&◌}
use Rattle.std.proofs.lemmas.Bool.{le-leb, lt-leb}
use mathlib.Core.Logic.{dite}
use native.Mathlib.Decide.{ℕ_discrete, dec_lt}
use mathlib.Core.Option.{some, some-injective, some-ne-none}
use lib.ListN.{get_elem?}
use Rattle.atomic_table.proofs.Lists.{at_longer}
use Rattle.rv_claims.specs.declared.view.Entry.{Entry}
use Rattle.rv_claims.specs.declared.view.View.{View}
use Rattle.rv_claims.specs.Draws.{total, times, IsIn, IsHistory, is_past_last_piece, past_last_count, is_same_draw, entry_count, HaveSameDraws}

-- what an item counts for in each of the counts
abbrev pub one_at : ℕ → ℕ → ℕ
one_at n k = cond (eqb k n) 1 0

abbrev pub one_past : ℕ → Entry → ℕ
one_past pieces e = cond (is_past_last_piece pieces e) 1 0

abbrev pub one_for : Entry → Entry → ℕ
one_for e x = cond (is_same_draw e x) 1 0

module _ {A : Type 0} where
  -- an item of a longer list is the last or stands before
  pub snoc_at : (l : List A) (a b : A) (j : ℕ) → get_elem? (l ++ a ∷ []) j ≡ some b
      → (get_elem? l j ≡ some b) ⊎ ((j ≡ length l) × (a ≡ b))
  snoc_at [] a b zero e = inr (refl, some-injective a b e)
  snoc_at [] a b (suc j) e = absurd (some-ne-none b (sym e))
  snoc_at (x ∷ xs) a b zero e = inl e
  snoc_at (x ∷ xs) a b (suc j) e = ⊎_elim (λ t. inl t) (λ t. inr (ap suc t.0, t.1)) (snoc_at xs a b j e)

  pub at_lt : (l : List A) (j : ℕ) (a : A) → get_elem? l j ≡ some a → j < length l
  at_lt [] j a e = absurd (some-ne-none a (sym e))
  at_lt (x ∷ xs) zero a e = omega arith
  at_lt (x ∷ xs) (suc j) a e = let h = at_lt xs j a e in omega arith

  pub in_append : (l m : List A) (a : A) → IsIn a (l ++ m) → IsIn a l ⊎ IsIn a m
  in_append [] m a i = inr i
  in_append (x ∷ xs) m a (zero, e) = inl (0, e)
  in_append (x ∷ xs) m a (suc k, e) = ⊎_elim (λ t. inl (suc t.0, t.1)) (λ t. inr t) (in_append xs m a (k, e))

  pub in_left : (l m : List A) (a : A) → IsIn a l → IsIn a (l ++ m)
  in_left l m a i = (i.0, at_longer l m i.0 a i.1)

  pub in_right : (l m : List A) (a : A) → IsIn a m → IsIn a (l ++ m)
  in_right [] m a i = i
  in_right (x ∷ xs) m a i = let r = in_right xs m a i in (suc r.0, r.1)

  pub in_one : (x a : A) → IsIn a (x ∷ []) → x ≡ a
  in_one x a (zero, e) = some-injective x a e
  in_one x a (suc k, e) = absurd (some-ne-none a (sym e))

  pub in_none : (a : A) → IsIn a [] → ⊥
  in_none a i = some-ne-none a (sym i.1)

  module _ (g : A → ℕ) where
    pub total-append : (l m : List A) → total g (l ++ m) ≡ total g l + total g m
    total-append [] m = omega arith
    total-append (x ∷ xs) m = omega (arith, total-append xs m)

    pub total-set : (l : List A) (j : ℕ) (v w : A) → get_elem? l j ≡ some v
        → total g (set l j w) + g v ≡ total g l + g w
    total-set [] j v w e = absurd (some-ne-none v (sym e))
    total-set (x ∷ xs) zero v w e = omega (arith, ap g (some-injective x v e))
    total-set (x ∷ xs) (suc j) v w e = omega (arith, total-set xs j v w e)

    pub term_le : (l : List A) (j : ℕ) (v : A) → get_elem? l j ≡ some v → g v ≤ total g l
    term_le [] j v e = absurd (some-ne-none v (sym e))
    term_le (x ∷ xs) zero v e = omega (arith, ap g (some-injective x v e))
    term_le (x ∷ xs) (suc j) v e = omega (arith, term_le xs j v e)

    pub terms_le : (l : List A) (j k : ℕ) (v u : A) → k ≢ j → get_elem? l j ≡ some v → get_elem? l k ≡ some u
        → g v + g u ≤ total g l
    terms_le [] j k v u n e d = absurd (some-ne-none v (sym e))
    terms_le (x ∷ xs) zero zero v u n e d = absurd (n refl)
    terms_le (x ∷ xs) zero (suc k) v u n e d = omega (arith, ap g (some-injective x v e), term_le xs k u d)
    terms_le (x ∷ xs) (suc j) zero v u n e d = omega (arith, ap g (some-injective x u d), term_le xs j v e)
    terms_le (x ∷ xs) (suc j) (suc k) v u n e d = omega (arith, terms_le xs j k v u (λ h. n (ap suc h)) e d)

    -- where something counts, some item does
    pub some_term : (l : List A) → 0 < total g l → (k : ℕ) × (a : A) × (get_elem? l k ≡ some a) × (0 < g a)
    some_term [] h = absurd (omega arith)
    some_term (x ∷ xs) h = dite (dec_lt 0 (g x)) (λ y. (0, x, refl, y))
        (λ n. let r = some_term xs (omega arith) in (suc r.0, r.1, r.2, r.3))

    -- where no item but one counts, the sum is that one's
    pub only_term : (l : List A) (j : ℕ) (v : A) → get_elem? l j ≡ some v
        → ((k : ℕ) (u : A) → k ≢ j → get_elem? l k ≡ some u → g u ≡ 0) → total g l ≡ g v
    only_term [] j v e h = absurd (some-ne-none v (sym e))
    only_term (x ∷ xs) zero v e h =
        omega (arith, ap g (some-injective x v e), none_term xs (λ k u d. h (suc k) u (λ i. omega arith) d))
      where
        none_term : (l : List A) → ((k : ℕ) (u : A) → get_elem? l k ≡ some u → g u ≡ 0) → total g l ≡ 0
        none_term [] h = refl
        none_term (x ∷ xs) h = omega (arith, h 0 x refl, none_term xs (λ k u d. h (suc k) u d))
    only_term (x ∷ xs) (suc j) v e h =
        omega (
          arith,
          h 0 x (λ i. omega arith) refl,
          only_term xs j v e (λ k u n d. h (suc k) u (λ i. n (omega arith)) d),
        )

  -- an item stands between two parts of its list
  parted_at : (l : List A) (j : ℕ) (x : A) → get_elem? l j ≡ some x → (a : List A) × (b : List A) × (l ≡ a ++ x ∷ b)
  parted_at [] j x e = absurd (some-ne-none x (sym e))
  parted_at (y ∷ l) zero x e = ([], l, ap (λ z. z ∷ l) (some-injective y x e))
  parted_at (y ∷ l) (suc j) x e = let r = parted_at l j x e in (y ∷ r.0, r.1, ap (λ m. y ∷ m) r.2)

  -- and counts for the list what it counts for itself
  total-between : (g : A → ℕ) (a : List A) (x : A) (b : List A) → total g (a ++ x ∷ b) ≡ g x + total g (a ++ b)
  total-between g a x b = omega (arith, total-append g a (x ∷ b), total-append g a b)

  pub total_le : (g h : A → ℕ) (l : List A) → ((k : ℕ) (a : A) → get_elem? l k ≡ some a → g a ≤ h a)
      → total g l ≤ total h l
  total_le g h [] f = omega arith
  total_le g h (x ∷ xs) f = omega (arith, f 0 x refl, total_le g h xs (λ k a e. f (suc k) a e))

  pub total-map : {B : Type 0} (g : B → ℕ) (f : A → B) (l : List A) → total g (map f l) ≡ total (λ a. g (f a)) l
  total-map g f [] = refl
  total-map g f (x ∷ xs) = ap (λ (n : ℕ). g (f x) + n) (total-map g f xs)

-- the sum of f below n
abbrev pub below : (ℕ → ℕ) → ℕ → ℕ
below f zero = 0
below f (suc n) = below f n + f n

below-add : (f g : ℕ → ℕ) (n : ℕ) → below (λ p. f p + g p) n ≡ below f n + below g n
below-add f g zero = refl
below-add f g (suc n) = omega (arith, below-add f g n)

below-zero : (n : ℕ) → below (λ _. 0) n ≡ 0
below-zero zero = refl
below-zero (suc n) = omega (arith, below-zero n)

below_le : (f : ℕ → ℕ) (n m : ℕ) → n ≤ m → ((p : ℕ) → p < m → f p ≤ 1) → below f n ≤ n
below_le f zero m le h = omega arith
below_le f (suc n) m le h = omega (arith, below_le f n m (omega arith) h, h n (omega arith))

pub one_at-same : (k : ℕ) → one_at k k ≡ 1
one_at-same k = ap (λ b. cond b 1 0) (eq-eqb k k refl)

pub one_at-other : (n k : ℕ) → k ≢ n → one_at n k ≡ 0
one_at-other n k ne = ap (λ b. cond b 1 0) (ne_eqb k n ne)

below_one : (x n : ℕ) → x < n → 1 ≤ below (λ p. one_at p x) n
below_one x zero h = absurd (omega arith)
below_one x (suc n) h = dite (ℕ_discrete x n)
    (λ e. let one : one_at n x ≡ 1 = ap (λ b. cond b 1 0) (eq-eqb x n e) in omega arith)
    (λ ne. let r = below_one x n (omega arith) in omega arith)

-- places below n are at most as many as the numbers below n, each as often as it stands there
length_below : (n : ℕ) (xs : List ℕ) → ((p : ℕ) → IsIn p xs → p < n) → length xs ≤ below (λ p. times p xs) n
length_below n [] h = omega arith
length_below n (x ∷ xs) h =
    omega (
      arith,
      length_below n xs (λ p i. h p (suc i.0, i.1)),
      below_one x n (h x (0, refl)),
      below-add (λ p. one_at p x) (λ p. times p xs) n,
    )

total-below : (g : ℕ → View → ℕ) (n : ℕ) (vs : List View)
    → total (λ v. below (λ p. g p v) n) vs ≡ below (λ p. total (g p) vs) n
total-below g n [] = sym (below-zero n)
total-below g n (v ∷ vs) = omega (arith, total-below g n vs, below-add (λ p. g p v) (λ p. total (g p) vs) n)

-- where each place is with one view at most, the views have no more places than there are
pub places_few : (vs : List View) → ((j : ℕ) (v : View) → get_elem? vs j ≡ some v → (p : ℕ) → IsIn p v.pass_indices → p < 64)
    → ((p : ℕ) → p < 64 → total (λ (v : View). times p v.pass_indices) vs ≤ 1) → total (λ (v : View). length v.pass_indices) vs ≤ 64
places_few vs low once = omega (
  arith,
  total_le (λ (v : View). length v.pass_indices) (λ v. below (λ p. times p v.pass_indices) 64) vs
      (λ k v e. length_below 64 v.pass_indices (low k v e)),
  total-below (λ p v. times p v.pass_indices) 64 vs,
  below_le (λ p. total (λ (v : View). times p v.pass_indices) vs) 64 64 (omega arith) once,
)

pub past_yes : (pieces : ℕ) (e : Entry) → pieces ≤ e.number → one_past pieces e ≡ 1
past_yes pieces e h = ap (λ b. cond b 1 0) (le-leb pieces e.number h)

pub past_no : (pieces : ℕ) (e : Entry) → e.number < pieces → one_past pieces e ≡ 0
past_no pieces e h = ap (λ b. cond b 1 0) (lt-leb pieces e.number h)

pub past_le : (pieces : ℕ) (e : Entry) → one_past pieces e ≤ 1
past_le pieces e = dite (dec_lt e.number pieces) (λ y. omega (arith, past_no pieces e y))
    (λ n. omega (arith, past_yes pieces e (omega arith)))

history_from : (pieces k : ℕ) (h : List Entry) → ((j : ℕ) (e : Entry) → get_elem? h j ≡ some e → e.number ≡ k + j)
    → length h + k ≤ past_last_count pieces h + max pieces k
history_from pieces k [] is = omega arith
history_from pieces k (e ∷ es) is =
    let here : e.number ≡ k = is 0 e refl ∙ omega arith in
    let rest = history_from pieces (k + 1) es (λ j x at. is (suc j) x at ∙ omega arith) in
    dite (dec_lt k pieces) (λ y. omega (arith, past_no pieces e (omega arith)))
    (λ n. omega (arith, past_yes pieces e (omega arith)))

-- a history has at most as many draws past the end as it is longer than the pieces
pub history_past : (pieces : ℕ) (h : List Entry) → IsHistory h → length h ≤ past_last_count pieces h + pieces
history_past pieces h is = let r = history_from pieces 0 h (λ j e at. is j e at ∙ omega arith) in omega arith

pub history-snoc : (h : List Entry) (e : Entry) → IsHistory h → e.number ≡ length h → IsHistory (h ++ e ∷ [])
history-snoc h e is last j x at =
    ⊎_elim (λ (t : get_elem? h j ≡ some x). is j x t)
    (λ (t : (j ≡ length h) × (e ≡ x)). ap (λ (y : Entry). y.number) (sym t.1) ∙ (last ∙ sym t.0)) (snoc_at h e x j at)

-- ---- how often an entry stands in a list

pub one_for-same : (e : Entry) → one_for e e ≡ 1
one_for-same e =
    ap (λ (b : Bool × Bool). cond (b.0 && b.1) 1 0)
    (λ i. (eq-eqb e.pass_index e.pass_index refl i, eq-eqb e.number e.number refl i))

one_for-other_place : (e x : Entry) → x.pass_index ≢ e.pass_index → one_for e x ≡ 0
one_for-other_place e x ne = ap (λ (b : Bool). cond (b && eqb x.number e.number) 1 0) (ne_eqb x.pass_index e.pass_index ne)

one_for-other_number : (e x : Entry) → x.pass_index ≡ e.pass_index → x.number ≢ e.number → one_for e x ≡ 0
one_for-other_number e x p ne =
    ap (λ (b : Bool × Bool). cond (b.0 && b.1) 1 0) (λ i. (eq-eqb x.pass_index e.pass_index p i, ne_eqb x.number e.number ne i))

-- an entry that counts for this one is this one
is_same : (e x : Entry) → 0 < one_for e x → x ≡ e
is_same e x h = dite (ℕ_discrete x.pass_index e.pass_index)
    (λ p. dite (ℕ_discrete x.number e.number)
    (λ n i. record { pass_index = p i; number = n i })
    (λ ne. let z = one_for-other_number e x p ne in absurd (omega arith)))
    (λ ne. let z = one_for-other_place e x ne in absurd (omega arith))

-- an entry that is counted stands in the list
pub counted_in : (e : Entry) (l : List Entry) → 0 < entry_count e l → IsIn e l
counted_in e l h =
    let t = some_term (one_for e) l h in
    (t.0, subst (λ (y : Entry). get_elem? l t.0 ≡ some y) (is_same e t.1 t.3) t.2)

-- lists with the same entries, as often, weigh the same, however entries are weighed
pub weighs_same : (f : Entry → ℕ) (xs ys : List Entry) → HaveSameDraws xs ys → total f xs ≡ total f ys
weighs_same f [] [] same = refl
weighs_same f [] (y ∷ ys) same = let e = same y in let one = one_for-same y in absurd (omega arith)
weighs_same f (x ∷ xs) ys same =
    let here = counted_in x ys (omega (arith, same x, one_for-same x)) in
    let r = parted_at ys here.0 x here.1 in
    let rest : HaveSameDraws xs (r.0 ++ r.1) = λ e.
    omega (arith, same e, ap (entry_count e) r.2, total-between (one_for e) r.0 x r.1) in
    omega (arith, weighs_same f xs (r.0 ++ r.1) rest, ap (total f) r.2, total-between f r.0 x r.1)

-- the draws of all views
abbrev all_draws : List View → List Entry
all_draws [] = []
all_draws (v ∷ vs) = v.draws ++ all_draws vs

total-all_draws : (f : Entry → ℕ) (vs : List View) → total f (all_draws vs) ≡ total (λ (v : View). total f v.draws) vs
total-all_draws f [] = refl
total-all_draws f (v ∷ vs) = omega (arith, total-append f v.draws (all_draws vs), total-all_draws f vs)

-- so do views that hold the entries of a history
pub views_weigh : (f : Entry → ℕ) (vs : List View) (h : List Entry)
    → ((e : Entry) → total (λ (v : View). entry_count e v.draws) vs ≡ entry_count e h)
    → total (λ (v : View). total f v.draws) vs ≡ total f h
views_weigh f vs h held =
    sym (total-all_draws f vs) ∙ weighs_same f (all_draws vs) h (λ e. total-all_draws (one_for e) vs ∙ held e)
