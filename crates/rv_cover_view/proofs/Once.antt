-- Sorted by address, and each address once: at each address the first stays the first.
use Rattle.std.proofs.Common.{◌≡◌, ◌∙◌, ◌==◌, ◌+◌, ◌&&◌, ℕ, Bool, true, false, cond, not, List, [], ◌∷◌, Option, Some, None, eqb, ltb, find, filter, map, option_map, refl, sym, ap, subst, arith}
use Rattle.std.specs.List.{dedup, dedup_from}
use Rattle.std.specs.List.Sorted.{IsSorted, IsSortedByKey, IsStableByKey, IsStrictlyIncreasing, ties}
use Rattle.std.specs.Ordering.{is_lt, nat_cmp}
use Rattle.std.proofs.lemmas.Bool.Decides.{nat_tests}
use Rattle.std.proofs.lemmas.List.{get_or-map, length-map}
use Rattle.std.proofs.lemmas.Map.Keys.{IsStrictlyIncreasing-dedup}
use Rattle.rv_elf.specs.declared.function.Function.{Function}
use Rattle.rv_cover_view.specs.Functions.{IsEachOnce, address_of, view_of_function, has_address}

module _ {X : Type 0} (n : X → ℕ) where
  abbrev pub is_at : ℕ → X → Bool
  is_at address x = n x == address

  abbrev pub is_same : X → X → Bool
  is_same x y = n x == n y

  -- ---- those of one address, before and behind a stable sort

  abbrev first_of : List X → Option X
  first_of [] = None
  first_of (x ∷ xs) = Some x

  find_first : (p : X → Bool) (xs : List X) → find p xs ≡ first_of (filter p xs)
  find_first p [] = refl
  find_first p (x ∷ xs) = elim (p x) as (λ b. cond b (Some x) (find p xs) ≡ first_of (cond b (x ∷ filter p xs) (filter p xs))) [
    | true ↦ refl
    | false ↦ find_first p xs
  ]

  found_is : (address : ℕ) (xs : List X) (x : X) → find (is_at address) xs ≡ Some x → n x ≡ address
  found_is address [] x e = cc
  found_is address (y ∷ ys) x e = elim (n y == address)
      as (λ b. (n y == address) ≡ b → cond b (Some y) (find (is_at address) ys) ≡ Some x → n x ≡ address) [
        | true ↦ λ t k. let same : y ≡ x = cc in ap n (sym same) ∙ equal (n y) address t
        | false ↦ λ t k. found_is address ys x k
      ] refl e
    where
      equal : (a b : ℕ) → (a == b) ≡ true → a ≡ b
      equal a b t = grind (arith, nat_tests)

  below : (a b : ℕ) → is_lt (nat_cmp a b) ≡ ltb a b
  below a b = grind (arith, nat_tests)

  tie_is : (a b address : ℕ) → a ≡ address → not (is_lt (nat_cmp a b)) && not (is_lt (nat_cmp b a)) ≡ (b == address)
  tie_is a b address e = (λ i. not (below a b i) && not (below b a i)) ∙ numbers a b address e
    where
      numbers : (a b address : ℕ) → a ≡ address → not (ltb a b) && not (ltb b a) ≡ (b == address)
      numbers a b address e = grind (arith, nat_tests)

  at_tie : (x : X) (address : ℕ) → n x ≡ address → (xs : List X)
      → filter (ties (λ u v. is_lt (nat_cmp (n u) (n v))) x) xs ≡ filter (is_at address) xs
  at_tie x address e xs = λ i. filter (λ y. tie_is (n x) (n y) address e i) xs

  by_one : (xs ys : List X) → IsStableByKey n nat_cmp xs ys → (x : X) (address : ℕ) → n x ≡ address
      → find (is_at address) ys ≡ find (is_at address) xs
  by_one xs ys stable x address e =
      find_first (is_at address) ys ∙ ap first_of (sym (at_tie x address e ys) ∙ stable x ∙ at_tie x address e xs)
      ∙ sym (find_first (is_at address) xs)

  find_sorted : (xs ys : List X) → IsStableByKey n nat_cmp xs ys → (address : ℕ)
      → find (is_at address) ys ≡ find (is_at address) xs
  find_sorted xs ys stable address = elim (find (is_at address) xs)
      as (λ o. find (is_at address) xs ≡ o → find (is_at address) ys ≡ find (is_at address) xs) [
        | Some x ↦ λ e. by_one xs ys stable x address (found_is address xs x e)
        | None ↦ λ e. elim (find (is_at address) ys)
            as (λ o. find (is_at address) ys ≡ o → find (is_at address) ys ≡ find (is_at address) xs) [
              | Some y ↦ λ k. by_one xs ys stable y address (found_is address ys y k)
              | None ↦ λ k. k ∙ sym e
            ] refl
      ] refl

  -- ---- without those of the same address as the one before

  pass_over : (k x address : ℕ) (a b r : Option X) → (x == k) ≡ true → cond (k == address) a r ≡ cond (k == address) a (cond (x == address) b r)
  pass_over k x address a b r e = elim (k == address)
      as (λ t. (k == address) ≡ t → cond t a r ≡ cond t a (cond (x == address) b r)) [
        | true ↦ λ t. refl
        | false ↦ λ t. ap (λ s. cond s b r) (sym (other k x address e t))
      ] refl
    where
      other : (k x address : ℕ) → (x == k) ≡ true → (k == address) ≡ false → (x == address) ≡ false
      other k x address e t = grind (arith, nat_tests)

  find_from : (address : ℕ) (k : X) (xs : List X) → find (is_at address) (dedup_from is_same k xs) ≡ find (is_at address) (k ∷ xs)
  find_from address k [] = refl
  find_from address k (x ∷ xs) = elim (n x == n k)
      as (λ b. (n x == n k) ≡ b → find (is_at address) (cond b (dedup_from is_same k xs) (k ∷ dedup_from is_same x xs))
      ≡ find (is_at address) (k ∷ x ∷ xs)) [
        | true ↦ λ e. find_from address k xs ∙ pass_over (n k) (n x) address (Some k) (Some x) (find (is_at address) xs) e
        | false ↦ λ e. ap (cond (n k == address) (Some k)) (find_from address x xs)
      ] refl

  find_once : (address : ℕ) (xs : List X) → find (is_at address) (dedup is_same xs) ≡ find (is_at address) xs
  find_once address [] = refl
  find_once address (x ∷ xs) = find_from address x xs

  keys_from : (k : X) (xs : List X) → map n (dedup_from is_same k xs) ≡ dedup_from eqb (n k) (map n xs)
  keys_from k [] = refl
  keys_from k (x ∷ xs) = elim (n x == n k)
      as (λ b. map n (cond b (dedup_from is_same k xs) (k ∷ dedup_from is_same x xs))
      ≡ cond b (dedup_from eqb (n k) (map n xs)) (n k ∷ dedup_from eqb (n x) (map n xs))) [
        | true ↦ keys_from k xs
        | false ↦ ap (λ ks. n k ∷ ks) (keys_from x xs)
      ]

  keys_once : (xs : List X) → map n (dedup is_same xs) ≡ dedup eqb (map n xs)
  keys_once [] = refl
  keys_once (x ∷ xs) = keys_from x xs

  keys_sorted : (xs : List X) → IsSortedByKey n nat_cmp xs → IsSorted nat_cmp (map n xs)
  keys_sorted [] up k d low l = absurd (omega arith)
  keys_sorted (x ∷ xs) up k d low l =
      let m = length-map (x ∷ xs) n in
      (λ i. is_lt (nat_cmp (get_or-map n (x ∷ xs) (k + 1) x d (omega (arith, m, l)) i) (get_or-map n (x ∷ xs) k x d (omega (arith, m, l)) i)))
      ∙ up k x low (omega (arith, m, l))

  rising_once : (xs : List X) → IsSortedByKey n nat_cmp xs → IsStrictlyIncreasing (map n (dedup is_same xs))
  rising_once xs up = subst IsStrictlyIncreasing (sym (keys_once xs)) (IsStrictlyIncreasing-dedup (map n xs) (keys_sorted xs up))

-- ---- functions

abbrev pub starts : Function → ℕ
starts f = f.address

find_named : (address : ℕ) (fs : List Function) → find (has_address address) (map view_of_function fs) ≡ option_map view_of_function (find (is_at starts address) fs)
find_named address [] = refl
find_named address (f ∷ fs) = elim (f.address == address)
    as (λ b. cond b (Some (view_of_function f)) (find (has_address address) (map view_of_function fs)) ≡ option_map view_of_function (cond b (Some f) (find (is_at starts address) fs))) [
      | true ↦ refl
      | false ↦ find_named address fs
    ]

addresses : (fs : List Function) → map address_of (map view_of_function fs) ≡ map starts fs
addresses [] = refl
addresses (f ∷ fs) = ap (λ ks. f.address ∷ ks) (addresses fs)

pub each_once : (xs ys zs : List Function) → IsSortedByKey starts nat_cmp ys → IsStableByKey starts nat_cmp xs ys
    → zs ≡ dedup (is_same starts) ys → IsEachOnce (map view_of_function xs) (map view_of_function zs)
each_once xs ys zs up stable is = subst (λ s. IsEachOnce (map view_of_function xs) (map view_of_function s)) (sym is) (record {
  rising = subst IsStrictlyIncreasing (sym (addresses (dedup (is_same starts) ys))) (rising_once starts ys up);
  first = λ address. find_named address (dedup (is_same starts) ys)
      ∙ ap (option_map view_of_function) (find_once starts address ys ∙ find_sorted starts xs ys stable address)
      ∙ sym (find_named address xs);
})
