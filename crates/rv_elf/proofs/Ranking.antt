-- The first element of a list that no other one ranks above, and how one more element changes it.
use Rattle.std.proofs.Common.{◌≡◌, ◌∙◌, ◌≤◌, ◌<◌, ◌+◌, ◌*◌, ◌==◌, ℕ, Bool, true, false, not, lit<}
use Rattle.std.proofs.Common.{◌&&◌, ◌||◌, cond, ltb, List}
use Rattle.std.proofs.Common.{[], ◌∷◌, ◌++◌, Option, Some, None, refl, sym, ap, arith, map, inl, inr}
use Rattle.std.specs.List.{find, filter, list_any, range_with_len}
use Rattle.std.specs.Option.{option_map_or}
use Rattle.std.proofs.lemmas.Bool.{or_cases, or_left, or_right, ltb-true, ltb-false, lt-ltb, le-ltb, not-false}
use Rattle.std.proofs.lemmas.Bool.{not_from_true}
use Rattle.std.proofs.lemmas.Bool.Decides.{nat_tests}
use Rattle.std.proofs.lemmas.List.{append-nil}
use Rattle.std.proofs.lemmas.List.FromFn.{filter_of_map_range_with_len_more}
use Rattle.rv_elf.specs.declared.symbols.Symbol.{Symbol}
use Rattle.rv_elf.specs.SymbolSearch.{is_function, is_object, precedence, is_preferred_to, nearest_candidate}

absorbed_right : (p q x : Bool) → (p ≡ true → q ≡ true) → p || (q || x) ≡ q || x
absorbed_right true q x h = sym (or_left q x (h refl))
absorbed_right false q x h = refl

absorbed_left : (p q x : Bool) → (q ≡ true → p ≡ true) → p || (q || x) ≡ p || x
absorbed_left true q x h = refl
absorbed_left false true x h = cc (h refl)
absorbed_left false false x h = refl

passed_over : {X : Type 0} (b c : Bool) (x y : X) (rest : Option X) → (b ≡ false → c ≡ false)
    → cond b (Some x) (cond c (Some y) rest) ≡ cond b (Some x) rest
passed_over true c x y rest h = refl
passed_over false c x y rest h = ap (λ d. cond d (Some y) rest) (h refl)

chosen : {X : Type 0} (b : Bool) (x y : X) → ◌≡◌ {A = Option X} (Some (cond b x y)) (cond b (Some x) (Some y))
chosen true x y = refl
chosen false x y = refl

module _ {X : Type 0} (rank : X → ℕ) where
  -- some element ranks above n
  abbrev pub above : ℕ → List X → Bool
  above n xs = list_any (λ t. ltb n (rank t)) xs

  -- the first element that none ranks above
  abbrev pub first_best : List X → Option X
  first_best xs = find (λ s. not (above (rank s) xs)) xs

  -- the last of those that rank above all before them, from b on
  abbrev pub best_from : X → List X → X
  best_from b [] = b
  best_from b (c ∷ cs) = best_from (cond (ltb (rank b) (rank c)) c b) cs

  above_lower : (n m : ℕ) (xs : List X) → m ≤ n → above n xs ≡ true → above m xs ≡ true
  above_lower n m [] l e = e
  above_lower n m (x ∷ xs) l e = elim (or_cases (ltb n (rank x)) (above n xs) e) [
    | inl here ↦ or_left (ltb m (rank x)) (above m xs)
        (let below = ltb-true n (rank x) here in lt-ltb m (rank x) (omega arith))
    | inr there ↦ or_right (ltb m (rank x)) (above m xs) (above_lower n m xs l there)
  ]

  module _ (b c : X) (cs : List X) where
    -- where the second ranks above the first, the first one counts for nothing
    first_lower : ltb (rank b) (rank c) ≡ true → first_best (b ∷ c ∷ cs) ≡ first_best (c ∷ cs)
    first_lower e =
        let below = ltb-true (rank b) (rank c) e in
        let same : (s : X) → not (above (rank s) (b ∷ c ∷ cs)) ≡ not (above (rank s) (c ∷ cs)) =
        λ s. ap not (absorbed_right (ltb (rank s) (rank b)) (ltb (rank s) (rank c)) (above (rank s) cs)
        (λ h. let less = ltb-true (rank s) (rank b) h in lt-ltb (rank s) (rank c) (omega arith))) in
        let beaten : not (above (rank b) (c ∷ cs)) ≡ false =
        not_from_true (above (rank b) (c ∷ cs)) (or_left (ltb (rank b) (rank c)) (above (rank b) cs) e) in
        (λ i. find (λ s. same s i) (b ∷ c ∷ cs))
        ∙ ap (λ d. cond d (Some b) (first_best (c ∷ cs))) beaten

    -- where it does not, the second one does not
    second_lower : ltb (rank b) (rank c) ≡ false → first_best (b ∷ c ∷ cs) ≡ first_best (b ∷ cs)
    second_lower e =
        let below = ltb-false (rank b) (rank c) e in
        let same : (s : X) → not (above (rank s) (b ∷ c ∷ cs)) ≡ not (above (rank s) (b ∷ cs)) =
        λ s. ap not (absorbed_left (ltb (rank s) (rank b)) (ltb (rank s) (rank c)) (above (rank s) cs)
        (λ h. let less = ltb-true (rank s) (rank c) h in lt-ltb (rank s) (rank b) (omega arith))) in
        (λ i. find (λ s. same s i) (b ∷ c ∷ cs))
        ∙ passed_over (not (above (rank b) (b ∷ cs))) (not (above (rank c) (b ∷ cs))) b c
        (find (λ s. not (above (rank s) (b ∷ cs))) cs)
        (λ h. not_from_true (above (rank c) (b ∷ cs))
        (above_lower (rank b) (rank c) (b ∷ cs) below (not-false (above (rank b) (b ∷ cs)) h)))

  is_best_from : (b : X) (cs : List X) → first_best (b ∷ cs) ≡ Some (best_from b cs)
  is_best_from b [] = ap (λ d. cond (not (d || false)) (Some b) None) (le-ltb (rank b) (rank b) (omega arith))
  is_best_from b (c ∷ cs) = elim (ltb (rank b) (rank c)) as (λ d. ltb (rank b) (rank c) ≡ d
      → first_best (b ∷ c ∷ cs) ≡ Some (best_from (cond d c b) cs)) [
        | true ↦ λ e. first_lower b c cs e ∙ is_best_from c cs
        | false ↦ λ e. second_lower b c cs e ∙ is_best_from b cs
      ] refl

  best_from-append : (b : X) (cs : List X) (c : X) → best_from b (cs ++ c ∷ [])
      ≡ cond (ltb (rank (best_from b cs)) (rank c)) c (best_from b cs)
  best_from-append b [] c = refl
  best_from-append b (d ∷ ds) c = best_from-append (cond (ltb (rank b) (rank d)) d b) ds c

  -- one more element is the first best where it ranks above the one so far, and else that stays
  pub first_best-append : (xs : List X) (c : X) → first_best (xs ++ c ∷ [])
      ≡ cond (option_map_or (λ b. ltb (rank b) (rank c)) (first_best xs) true) (Some c) (first_best xs)
  first_best-append [] c = is_best_from c []
  first_best-append (b ∷ bs) c =
      is_best_from b (bs ++ c ∷ []) ∙ ap (λ x. Some x) (best_from-append b bs c)
      ∙ chosen (ltb (rank (best_from b bs)) (rank c)) c (best_from b bs)
      ∙ sym (ap (λ o. cond (option_map_or (λ x. ltb (rank x) (rank c)) o true) (Some c) o) (is_best_from b bs))

-- ---- the nearest symbol

-- the value first, and then what it is
abbrev pub rank_by_steps : Symbol → ℕ
rank_by_steps s = 3 * s.value + precedence s

pub below_three : (f o : Bool) → cond f 2 (cond o 1 0) < 3
below_three true o = lit< tt
below_three false true = lit< tt
below_three false false = lit< tt

ranked_alike : (a b f g : ℕ) → f < 3 → g < 3 → ltb b a || ((a == b) && ltb g f) ≡ ltb (3 * b + g) (3 * a + f)
ranked_alike a b f g below under = grind (arith, nat_tests)

pub is_ranked : (s t : Symbol) → is_preferred_to s t ≡ ltb (rank_by_steps t) (rank_by_steps s)
is_ranked s t = ranked_alike s.value t.value (precedence s) (precedence t)
    (below_three (is_function s) (is_object s)) (below_three (is_function t) (is_object t))

nearest_ranked : (ss : List Symbol) → nearest_candidate ss ≡ first_best rank_by_steps ss
unfolding nearest_candidate
nearest_ranked ss = λ i. find (λ s. not (list_any (λ t. is_ranked t s i) ss)) ss

nearest-append : (ss : List Symbol) (c : Symbol) → nearest_candidate (ss ++ c ∷ [])
    ≡ cond (option_map_or (is_preferred_to c) (nearest_candidate ss) true) (Some c) (nearest_candidate ss)
nearest-append ss c =
    let back : cond (option_map_or (is_preferred_to c) (nearest_candidate ss) true) (Some c) (nearest_candidate ss)
    ≡ cond (option_map_or (λ b. ltb (rank_by_steps b) (rank_by_steps c)) (first_best rank_by_steps ss) true) (Some c)
    (first_best rank_by_steps ss) =
    λ i. cond (option_map_or (λ b. is_ranked c b i) (nearest_ranked ss i) true) (Some c) (nearest_ranked ss i) in
    nearest_ranked (ss ++ c ∷ []) ∙ first_best-append rank_by_steps ss c ∙ sym back

and_true : (b : Bool) → b ≡ b && true
and_true true = refl
and_true false = refl

and_false : (b : Bool) → false ≡ b && false
and_false true = refl
and_false false = refl

-- one more symbol, which may be a candidate
more : (ss : List Symbol) (c : Symbol) (passes : Bool) → nearest_candidate (ss ++ cond passes (c ∷ []) [])
    ≡ cond (option_map_or (is_preferred_to c) (nearest_candidate ss) true && passes) (Some c) (nearest_candidate ss)
more ss c true = nearest-append ss c
    ∙ ap (λ b. cond b (Some c) (nearest_candidate ss)) (and_true (option_map_or (is_preferred_to c) (nearest_candidate ss) true))
more ss c false = ap nearest_candidate (append-nil ss)
    ∙ ap (λ b. cond b (Some c) (nearest_candidate ss)) (and_false (option_map_or (is_preferred_to c) (nearest_candidate ss) true))

module _ (p : Symbol → Bool) (f : ℕ → Symbol) where
  -- the nearest of those that pass, among the first k
  abbrev pub nearest_below : ℕ → Option Symbol
  nearest_below k = nearest_candidate (filter p (map f (range_with_len 0 k)))

  pub nearest_more : (k : ℕ) → nearest_below (k + 1)
      ≡ cond (option_map_or (is_preferred_to (f k)) (nearest_below k) true && p (f k)) (Some (f k)) (nearest_below k)
  nearest_more k = ap nearest_candidate (filter_of_map_range_with_len_more p f 0 k k (omega arith))
      ∙ more (filter p (map f (range_with_len 0 k))) (f k) (p (f k))

  -- so it changes to the next one where that is nearer and passes
  pub one_more : (k : ℕ) (s : Symbol) (best : Option Symbol) (changes : Bool) → s ≡ f k
      → best ≡ nearest_below k → option_map_or (is_preferred_to s) best true && p s ≡ changes
      → cond changes (Some s) best ≡ nearest_below (k + 1)
  one_more k s best changes is so_far e =
      ap (λ b. cond b (Some s) best) (sym e)
      ∙ (λ i. cond (option_map_or (is_preferred_to (is i)) (so_far i) true && p (is i)) (Some (is i)) (so_far i))
      ∙ sym (nearest_more k)
