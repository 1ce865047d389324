-- One tree has these counts.
use Rattle.std.proofs.Common.{◌≡◌, ◌∙◌, ◌<◌, ◌≤◌, ◌⊎◌, ℕ, zero, suc, Bool, true, false, cond, List, [], ◌∷◌, ◌++◌, length, take, get_or, refl, sym, ap, subst, arith, inl, inr}
use Rattle.std.proofs.lemmas.Bool.{cases_Bool, cases_order}
use Rattle.std.proofs.lemmas.List.{length-take-le}
use Rattle.std.proofs.lemmas.Slice.Eq.{bytes_eq-Decides}
use Rattle.std.proofs.Math.Seq.{get_or-append_seam}
use Rattle.std.specs.Str.{bytes_eq}
use Rattle.rv_call_tree.specs.declared.call_node.CallNode.{CallNode}
use Rattle.rv_call_tree.specs.Trees.{path_after, calls_of_node, steps_of, sum_over_path, HasCalls, IsTree, MayFollow, AreInPreorder}
use Rattle.rv_call_tree.proofs.Parts.{length_behind}

-- ---- the order of lists, as words in a dictionary

abbrev Less : List ℕ → List ℕ → Type 0
Less xs [] = ⊥
Less [] (y ∷ ys) = Unit {0}
Less (x ∷ xs) (y ∷ ys) = (x < y) ⊎ ((x ≡ y) × Less xs ys)

less_less : (xs ys zs : List ℕ) → Less xs ys → Less ys zs → Less xs zs
less_less xs [] zs h k = absurd h
less_less xs (y ∷ ys) [] h k = absurd k
less_less [] (y ∷ ys) (z ∷ zs) h k = tt
less_less (x ∷ xs) (y ∷ ys) (z ∷ zs) h k = elim h [
  | inl low ↦ elim k [
    | inl high ↦ inl (omega arith)
    | inr same ↦ let e = same.0 in inl (omega (arith, e))
  ]
  | inr same ↦ elim k [
    | inl high ↦ let e = same.0 in inl (omega (arith, e))
    | inr also ↦ inr (same.0 ∙ also.0, less_less xs ys zs same.1 also.1)
  ]
]

not_less : (xs : List ℕ) → Less xs xs → ⊥
not_less [] h = h
not_less (x ∷ xs) h = elim h [
  | inl low ↦ absurd (omega arith)
  | inr same ↦ not_less xs same.1
]

order : (xs ys : List ℕ) → (xs ≡ ys) ⊎ (Less xs ys ⊎ Less ys xs)
order [] [] = inl refl
order [] (y ∷ ys) = inr (inl tt)
order (x ∷ xs) [] = inr (inr tt)
order (x ∷ xs) (y ∷ ys) = elim (cases_order x y) [
  | inl same ↦ elim (order xs ys) [
    | inl rest ↦ inl (λ i. same i ∷ rest i)
    | inr other ↦ elim other [
      | inl low ↦ inr (inl (inr (same, low)))
      | inr high ↦ inr (inr (inr (sym same, high)))
    ]
  ]
  | inr other ↦ elim other [
    | inl low ↦ inr (inl (inl low))
    | inr high ↦ inr (inr (inl high))
  ]
]

-- ---- lists rise from spot to spot

grows : (front : List ℕ) (depth function : ℕ) → depth ≤ length front
    → (depth < length front → get_or front depth 0 < function) → Less front (take depth front ++ function ∷ [])
grows [] zero function h k = tt
grows [] (suc depth) function h k = absurd (omega arith)
grows (x ∷ xs) zero function h k = inl (k (omega arith))
grows (x ∷ xs) (suc depth) function h k =
    inr (refl, grows xs depth function (omega arith) (λ less. k (omega arith)))

rises : (front : List ℕ) (s : CallNode) → MayFollow front s → Less front (path_after front s)
rises front s h = grows front s.depth s.function h.within h.rising

same_bytes : (p : List ℕ) → bytes_eq p p ≡ true
same_bytes p = (bytes_eq-Decides p p).1 refl

apart_bytes : (p q : List ℕ) → (p ≡ q → ⊥) → bytes_eq p q ≡ false
apart_bytes p q h = elim (cases_Bool (bytes_eq p q)) [
  | inl same ↦ absurd (h ((bytes_eq-Decides p q).0 same))
  | inr apart ↦ apart
]

-- the lower list is none of those behind
not_above : (p q : List ℕ) → Less p q → bytes_eq q p ≡ false
not_above p q h = apart_bytes q p (λ e. not_less p (subst (λ (r : List ℕ). Less p r) e h))

none_later : (count : CallNode → ℕ) (p front : List ℕ) (ss : List CallNode) → AreInPreorder front ss → (p ≡ front) ⊎ Less p front
    → sum_over_path count p front ss ≡ 0
none_later count p front [] h low = refl
none_later count p front (s ∷ ss) h low =
    let up = rises front s h.0 in
    let above : Less p (path_after front s) = elim low [
      | inl same ↦ subst (λ (r : List ℕ). Less r (path_after front s)) (sym same) up
      | inr less ↦ less_less p front (path_after front s) less up
    ] in
    let here = ap (λ (b : Bool). cond b (count s) 0) (not_above p (path_after front s) above) in
    let rest = none_later count p (path_after front s) ss h.1 (inr above) in
    omega (arith, here, rest)

-- the first list has what its spot has
first_has : (count : CallNode → ℕ) (front : List ℕ) (s : CallNode) (ss : List CallNode) → AreInPreorder front (s ∷ ss)
    → sum_over_path count (path_after front s) front (s ∷ ss) ≡ count s
first_has count front s ss h =
    let here = ap (λ (b : Bool). cond b (count s) 0) (same_bytes (path_after front s)) in
    let rest = none_later count (path_after front s) (path_after front s) ss h.1 (inl refl) in
    omega (arith, here, rest)

-- a list below the first one has nothing
below_first : (count : CallNode → ℕ) (p front : List ℕ) (s : CallNode) (ss : List CallNode) → AreInPreorder front (s ∷ ss)
    → Less p (path_after front s) → sum_over_path count p front (s ∷ ss) ≡ 0
below_first count p front s ss h low =
    let here = ap (λ (b : Bool). cond b (count s) 0) (not_above p (path_after front s) low) in
    let rest = none_later count p (path_after front s) ss h.1 (inr low) in
    omega (arith, here, rest)

-- ---- the first spots of both

same_depth : (front : List ℕ) (s t : CallNode) → MayFollow front s → MayFollow front t
    → path_after front s ≡ path_after front t → s.depth ≡ t.depth
same_depth front s t h k e =
    let a = length_behind front s h.within in
    let b = length_behind front t k.within in
    let c = ap length e in
    omega (arith, a, b, c)

last_is : (front : List ℕ) (s : CallNode) → MayFollow front s → get_or (path_after front s) s.depth 0 ≡ s.function
last_is front s h =
    ap (λ (n : ℕ). get_or (path_after front s) n 0) (sym (length-take-le s.depth front h.within))
    ∙ get_or-append_seam (take s.depth front) s.function [] 0

same_function : (front : List ℕ) (s t : CallNode) → MayFollow front s → MayFollow front t
    → path_after front s ≡ path_after front t → s.function ≡ t.function
same_function front s t h k e =
    sym (last_is front s h)
    ∙ (λ i. get_or (e i) (same_depth front s t h k e i) 0)
    ∙ last_is front t k

abbrev SameCounts : (CallNode → ℕ) → List ℕ → List CallNode → List CallNode → Type 0
SameCounts count front a b = (p : List ℕ) → sum_over_path count p front a ≡ sum_over_path count p front b

module _ (front : List ℕ) (s t : CallNode) (ss ts : List CallNode) (a : AreInPreorder front (s ∷ ss)) (b : AreInPreorder front (t ∷ ts))
    (e : path_after front s ≡ path_after front t) where
  same_first_count : (count : CallNode → ℕ) → SameCounts count front (s ∷ ss) (t ∷ ts) → count s ≡ count t
  same_first_count count same =
      let of_s = first_has count front s ss a in
      let of_t = first_has count front t ts b in
      let there = same (path_after front s) in
      let moved = ap (λ (p : List ℕ). sum_over_path count p front (t ∷ ts)) e in
      omega (arith, of_s, of_t, there, moved)

  same_rest : (count : CallNode → ℕ) → SameCounts count front (s ∷ ss) (t ∷ ts) → SameCounts count (path_after front s) ss ts
  same_rest count same p =
      let whole = same p in
      let first = ap (λ (n : ℕ). cond (bytes_eq (path_after front s) p) n 0) (same_first_count count same) in
      let other = ap (λ (q : List ℕ). cond (bytes_eq q p) (count t) 0) e in
      let moved = ap (λ (q : List ℕ). sum_over_path count p q ts) e in
      omega (arith, whole, first, other, moved)

same_spot : (s t : CallNode) → s.depth ≡ t.depth → s.function ≡ t.function → s.calls ≡ t.calls → s.steps ≡ t.steps
    → s ≡ t
same_spot s t depth function calls steps =
    λ i. record { depth = depth i; function = function i; calls = calls i; steps = steps i }

one_tree : (front : List ℕ) (a b : List CallNode) → AreInPreorder front a → AreInPreorder front b → HasCalls a → HasCalls b
    → SameCounts calls_of_node front a b → SameCounts steps_of front a b → a ≡ b
one_tree front [] [] h k some more calls steps = refl
one_tree front (s ∷ ss) [] h k some more calls steps =
    let there = calls (path_after front s) in
    let of_s = first_has calls_of_node front s ss h in
    let least = some.0 in
    absurd (omega (arith, there, of_s, least))
one_tree front [] (t ∷ ts) h k some more calls steps =
    let there = calls (path_after front t) in
    let of_t = first_has calls_of_node front t ts k in
    let least = more.0 in
    absurd (omega (arith, there, of_t, least))
one_tree front (s ∷ ss) (t ∷ ts) h k some more calls steps = elim (order (path_after front s) (path_after front t)) [
  | inl same ↦
      let first = same_spot s t (same_depth front s t h.0 k.0 same) (same_function front s t h.0 k.0 same)
      (same_first_count front s t ss ts h k same calls_of_node calls)
      (same_first_count front s t ss ts h k same steps_of steps) in
      let rest = one_tree (path_after front s) ss ts h.1 (subst (λ (p : List ℕ). AreInPreorder p ts) (sym same) k.1)
      some.1 more.1 (same_rest front s t ss ts h k same calls_of_node calls) (same_rest front s t ss ts h k same steps_of steps) in
      λ i. first i ∷ rest i
  | inr apart ↦ elim apart [
    | inl low ↦
        let there = calls (path_after front s) in
        let of_s = first_has calls_of_node front s ss h in
        let of_t = below_first calls_of_node (path_after front s) front t ts k low in
        let least = some.0 in
        absurd (omega (arith, there, of_s, of_t, least))
    | inr high ↦
        let there = calls (path_after front t) in
        let of_t = first_has calls_of_node front t ts k in
        let of_s = below_first calls_of_node (path_after front t) front s ss h high in
        let least = more.0 in
        absurd (omega (arith, there, of_s, of_t, least))
  ]
]

pub one_tree_of_counts : (a b : List CallNode) → IsTree a → IsTree b → HasCalls a → HasCalls b
    → SameCounts calls_of_node [] a b → SameCounts steps_of [] a b → a ≡ b
one_tree_of_counts a b h k some more calls steps = one_tree [] a b h k some more calls steps
