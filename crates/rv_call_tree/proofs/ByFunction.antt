-- Subtrees sorted by function: those of one stand side by side, in the order in which they stood before.
use Rattle.std.proofs.Common.{◌≡◌, ◌∙◌, ◌==◌, ◌&&◌, ◌+◌, ◌-◌, ◌<◌, ◌≤◌, ◌++◌, ◌∷◌, [], ℕ, Bool, true, false, List, cond, length, take, drop, get_or, refl, sym, ap, subst, arith, ltb, leb}
use Rattle.std.specs.Prelude.{not}
use Rattle.std.specs.List.{filter, All, AllWithin}
use Rattle.std.specs.List.Sorted.{IsPartitionPoint, IsStableByKey, ties}
use Rattle.std.specs.Ordering.{is_lt, nat_cmp}
use Rattle.std.proofs.lemmas.Bool.Decides.{nat_tests}
use Rattle.std.proofs.lemmas.List.{append-nil, get_or-drop, get_or-take, length-drop, length-take-le, take-append-drop, take_rest}
use Rattle.std.proofs.lemmas.List.Elements.{filter-append, filter_agree, All-head, All-tail}
use Rattle.rv_call_tree.specs.declared.subtree.Subtree.{Subtree}
use Rattle.rv_call_tree.specs.Subtrees.{with_root_function}

-- ---- after a stable sort

tie : (a b : ℕ) → (not (is_lt (nat_cmp a b)) && not (is_lt (nat_cmp b a))) ≡ (b == a)
tie a b = grind (arith, nat_tests)

-- one of the function
abbrev any_of : ℕ → Subtree
any_of f = record { function = f; index = 0; end = 0; own = 0; inclusive = 0; calls = 0 }

abbrev pub key_of : Subtree → ℕ
key_of s = s.function

pub each_stays : (xs ys : List Subtree) → IsStableByKey key_of nat_cmp xs ys → (f : ℕ)
    → with_root_function f ys ≡ with_root_function f xs
each_stays xs ys stable f =
    let agree = λ (zs : List Subtree). filter_agree (λ (s : Subtree). s.function == f)
    (ties (λ (x y : Subtree). is_lt (nat_cmp x.function y.function)) (any_of f)) (λ (s : Subtree). sym (tie f s.function)) zs in
    agree ys ∙ stable (any_of f) ∙ sym (agree xs)

-- ---- side by side

module _ (p : Subtree → Bool) where
  none_pass : (xs : List Subtree) → All (λ x. p x ≡ false) xs → filter p xs ≡ []
  none_pass [] h = refl
  none_pass (x ∷ xs) h =
      ap (λ (b : Bool). cond b (x ∷ filter p xs) (filter p xs)) (All-head (λ x. p x ≡ false) x xs h)
      ∙ none_pass xs (All-tail (λ x. p x ≡ false) x xs h)

  all_pass : (xs : List Subtree) → All (λ x. p x ≡ true) xs → filter p xs ≡ xs
  all_pass [] h = refl
  all_pass (x ∷ xs) h =
      ap (λ (b : Bool). cond b (x ∷ filter p xs) (filter p xs)) (All-head (λ x. p x ≡ true) x xs h)
      ∙ ap (λ (zs : List Subtree). x ∷ zs) (all_pass xs (All-tail (λ x. p x ≡ true) x xs h))

first_all : (P : Subtree → Type 0) (xs : List Subtree) (i : ℕ) → i ≤ length xs → AllWithin P xs 0 i → All P (take i xs)
first_all P xs i within h k d less =
    let kept = length-take-le i xs within in
    let low : k < i = omega (arith, less, kept) in
    subst P (sym (get_or-take i xs k d low)) (h k d (omega arith) low)

rest_all : (P : Subtree → Type 0) (xs : List Subtree) (i : ℕ) → AllWithin P xs i (length xs) → All P (drop i xs)
rest_all P xs i h k d less =
    let kept = length-drop i xs in
    subst P (sym (get_or-drop i xs k d)) (h (i + k) d (omega arith) (omega (arith, less, kept)))

less_is_other : (a f : ℕ) → ltb a f ≡ true → (a == f) ≡ false
less_is_other a f h = grind (arith, nat_tests)

greater_is_other : (a f : ℕ) → leb a f ≡ false → (a == f) ≡ false
greater_is_other a f h = grind (arith, nat_tests)

neither_is_same : (a f : ℕ) → ltb a f ≡ false → leb a f ≡ true → (a == f) ≡ true
neither_is_same a f h k = grind (arith, nat_tests)

pub run_is : (f : ℕ) (xs : List Subtree) (start count : ℕ) → start ≤ length xs → count ≤ length (drop start xs)
    → IsPartitionPoint (λ (s : Subtree). ltb s.function f ≡ true) (λ (s : Subtree). ltb s.function f ≡ false) xs start
    → IsPartitionPoint (λ (s : Subtree). leb s.function f ≡ true) (λ (s : Subtree). leb s.function f ≡ false) (drop start xs) count
    → take count (drop start xs) ≡ with_root_function f xs
run_is f xs start count within few less more =
    let p = λ (s : Subtree). s.function == f in
    let front = take start xs in
    let rest = drop start xs in
    let same = take count rest in
    let behind = drop count rest in
    let in_front : filter p front ≡ [] = none_pass p front (λ k d l. less_is_other (get_or front k d).function f
    (first_all (λ s. ltb s.function f ≡ true) xs start within less.0 k d l)) in
    let here : filter p same ≡ same = all_pass p same (λ k d l. neither_is_same (get_or same k d).function f
    (subst (λ (s : Subtree). ltb s.function f ≡ false)
    (sym (get_or-take count rest k d (let kept = length-take-le count rest few in omega (arith, l, kept))))
    (rest_all (λ s. ltb s.function f ≡ false) xs start less.1 k d (let kept = length-take-le count rest few in omega (arith, l, kept, few))))
    (first_all (λ s. leb s.function f ≡ true) rest count few more.0 k d l)) in
    let past : filter p behind ≡ [] = none_pass p behind (λ k d l. greater_is_other (get_or behind k d).function f
    (rest_all (λ s. leb s.function f ≡ false) rest count more.1 k d l)) in
    sym (ap (filter p) (sym (take-append-drop start xs))
    ∙ filter-append p front rest
    ∙ ap (λ (zs : List Subtree). zs ++ filter p rest) in_front
    ∙ ap (filter p) (sym (take-append-drop count rest))
    ∙ filter-append p same behind
    ∙ (λ i. here i ++ past i)
    ∙ append-nil same)

-- the same of what is left as a slice has it
pub run_of_rest : (f : ℕ) (xs : List Subtree) (start count : ℕ) → start ≤ length xs
    → count ≤ length (take (length xs - start) (drop start xs))
    → IsPartitionPoint (λ (s : Subtree). ltb s.function f ≡ true) (λ (s : Subtree). ltb s.function f ≡ false) xs start
    → IsPartitionPoint (λ (s : Subtree). leb s.function f ≡ true) (λ (s : Subtree). leb s.function f ≡ false)
    (take (length xs - start) (drop start xs)) count
    → take count (take (length xs - start) (drop start xs)) ≡ with_root_function f xs
run_of_rest f xs start count within few less more =
    let P : List Subtree → Type 0 = λ ts. count ≤ length ts
    → IsPartitionPoint (λ (s : Subtree). leb s.function f ≡ true) (λ (s : Subtree). leb s.function f ≡ false) ts count
    → take count ts ≡ with_root_function f xs in
    subst P (sym (take_rest xs start)) (λ few more. run_is f xs start count within few less more) few more
