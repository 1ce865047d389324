-- Two trees, merged from the front.
use Rattle.std.proofs.Common.{◌≡◌, ◌∙◌, ◌==◌, ◌+◌, ◌<◌, ◌≤◌, ◌&&◌, ◌⊎◌, ℕ, Bool, true, false, cond, List, [], ◌∷◌, ◌++◌, length, take, drop, refl, sym, ap, subst, arith, inl, inr, append-nil, take-add, drop-drop}
use Rattle.std.proofs.lemmas.Bool.{false≢true, and_parts, cases_Bool, or_cases, or_parts}
use Rattle.std.proofs.lemmas.List.{take_all, take-append-drop}
use Rattle.std.proofs.lemmas.Slice.Eq.{bytes_eq-Decides}
use Rattle.std.specs.Prelude.{nat_lt}
use Rattle.std.specs.List.{AllByRecursion}
use Rattle.std.specs.Str.{bytes_eq}
use Rattle.rv_call_tree.specs.declared.call_node.CallNode.{CallNode}
use Rattle.rv_call_tree.specs.declared.sum.NextNode.{NextNode}
use Rattle.rv_call_tree.specs.declared.sum.CallTreeSumError.{CallTreeSumError}
use Rattle.rv_call_tree.specs.declared.sum.CallTreeSumError.TheVariants.{OutOfMemory, Count}
use Rattle.rv_call_tree.specs.Sums.{sum_of_nodes, comes_first, next_of, next_of_nodes, node_of_first, node_of_second, IsSumOfCallTrees, IsOverflowOfTrees, IsOverflowOfFirstNodes, CountsOverflow}
use Rattle.rv_call_tree.specs.Trees.{path_after, last_path, calls_of_node, steps_of, sum_over_path, ends_with, HasCalls, IsTree, MayFollow, AreInPreorder}
use Rattle.rv_call_tree.proofs.Fronts.{StandsAlike, behind_other}
use Rattle.rv_call_tree.proofs.Tests.{equal_by, equal_test, less_by, not_less_by}
use Rattle.rv_call_tree.proofs.Parts.{last_parts, counted_parts, some_of_parts, some_parts, stand_of_parts}

-- so much of both is added: the spots in front of a rest are xs and ys
pub record SoFar (xs ms ys bs sums : List CallNode) : Type 0 where
  pub rest_of_a : AreInPreorder (last_path [] xs) ms
  pub rest_of_b : AreInPreorder (last_path [] ys) bs
  pub tree : IsTree sums
  pub some : HasCalls xs → HasCalls ys → HasCalls sums
  pub counted : (count : CallNode → ℕ) (path : List ℕ)
      → ((s t : CallNode) → count (sum_of_nodes s t).node ≡ count s + count t)
      → sum_over_path count path [] sums ≡ sum_over_path count path [] xs + sum_over_path count path [] ys
  pub first : StandsAlike (last_path [] xs) (last_path [] sums) ms
  pub second : StandsAlike (last_path [] ys) (last_path [] sums) bs

last_of : (f : ℕ) (xs : List ℕ) (x : ℕ) → ends_with f (xs ++ x ∷ []) ≡ (x == f)
last_of f [] x = refl
last_of f (y ∷ []) x = refl
last_of f (y ∷ z ∷ zs) x = last_of f (z ∷ zs) x

-- ---- one more

more_counted : (count : CallNode → ℕ) (path : List ℕ) (xs : List CallNode) (s : CallNode) → sum_over_path count path [] (xs ++ s ∷ [])
    ≡ sum_over_path count path [] xs + cond (bytes_eq (path_after (last_path [] xs) s) path) (count s) 0
more_counted count path xs s = let h = counted_parts count path [] xs (s ∷ []) in omega (arith, h)

more_tree : (xs : List CallNode) (s : CallNode) → IsTree xs → MayFollow (last_path [] xs) s → IsTree (xs ++ s ∷ [])
more_tree xs s h k = stand_of_parts [] xs (s ∷ []) h (k, tt)

order_of : (s t : CallNode) → comes_first t s ≡ true → (s.depth < t.depth) ⊎ ((s.depth ≡ t.depth) × (t.function < s.function))
order_of s t h = elim (or_cases (nat_lt s.depth t.depth) ((t.depth == s.depth) && nat_lt t.function s.function) h) [
  | inl deep ↦ inl (less_by s.depth t.depth deep)
  | inr low ↦ let both = and_parts (t.depth == s.depth) (nat_lt t.function s.function) low in
      inr (sym (equal_by t.depth s.depth both.0), less_by t.function s.function both.1)
]

-- the rest of the tree whose spot it was
own_rest : (own front : List ℕ) (s : CallNode) (ss : List CallNode) → take s.depth own ≡ take s.depth front
    → AreInPreorder (path_after own s) ss → StandsAlike (path_after own s) (path_after front s) ss
own_rest own front s [] same h = tt
own_rest own front s (x ∷ xs) same h = (
  ap (λ (path : List ℕ). take x.depth (path ++ s.function ∷ [])) same,
  subst (λ (path : List ℕ). MayFollow (path ++ s.function ∷ []) x) same h.0,
)

-- a spot goes before the first of a list
abbrev AheadOf : CallNode → List CallNode → Type 0
AheadOf t [] = Unit {0}
AheadOf t (s ∷ ss) = comes_first t s ≡ true

-- the rest of the other tree
other_rest : (own front : List ℕ) (t : CallNode) (ss : List CallNode) → MayFollow front t → StandsAlike own front ss
    → AheadOf t ss → StandsAlike own (path_after front t) ss
other_rest own front t [] stands h ahead = tt
other_rest own front t (s ∷ ss) stands h ahead =
    let k = behind_other t.depth t.function front s stands.within h.1 (order_of s t ahead) in (h.0 ∙ k.0, k.1)

-- what is counted of a spot behind its own front and behind that of the sum
same_here : (count : CallNode → ℕ) (path own front : List ℕ) (s : CallNode) → take s.depth own ≡ take s.depth front
    → cond (bytes_eq (path_after own s) path) (count s) 0 ≡ cond (bytes_eq (path_after front s) path) (count s) 0
same_here count path own front s same = ap (λ (p : List ℕ). cond (bytes_eq (p ++ s.function ∷ []) path) (count s) 0) same

-- the first spot of the first tree
take_first : (xs ss ys bs sums : List CallNode) (s : CallNode) → SoFar xs (s ∷ ss) ys bs sums → AheadOf s bs
    → SoFar (xs ++ s ∷ []) ss ys bs (sums ++ s ∷ [])
take_first xs ss ys bs sums s h ahead =
    let own = last_path [] xs in
    let front = last_path [] sums in
    let of_own = last_parts [] xs (s ∷ []) in
    let of_sum = last_parts [] sums (s ∷ []) in record {
      rest_of_a = subst (λ (path : List ℕ). AreInPreorder path ss) (sym of_own) h.rest_of_a.1;
      rest_of_b = h.rest_of_b;
      tree = more_tree sums s h.tree h.first.1;
      some = λ some_a some_b.
          let parts = some_parts xs (s ∷ []) some_a in some_of_parts sums (s ∷ []) (h.some parts.0 some_b) parts.1;
      counted = λ count path adds.
          let so_far = h.counted count path adds in
          let a = more_counted count path xs s in
          let b = more_counted count path sums s in
          let same = same_here count path own front s h.first.0 in
          omega (arith, so_far, a, b, same);
      first = subst (λ (path : List ℕ). StandsAlike path (last_path [] (sums ++ s ∷ [])) ss) (sym of_own)
          (subst (λ (path : List ℕ). StandsAlike (path_after own s) path ss) (sym of_sum)
          (own_rest own front s ss h.first.0 h.rest_of_a.1));
      second = subst (λ (path : List ℕ). StandsAlike (last_path [] ys) path bs) (sym of_sum)
          (other_rest (last_path [] ys) front s bs h.first.1 h.second ahead);
    }

-- that of the second
take_second : (xs ms ys ts sums : List CallNode) (t : CallNode) → SoFar xs ms ys (t ∷ ts) sums → AheadOf t ms
    → SoFar xs ms (ys ++ t ∷ []) ts (sums ++ t ∷ [])
take_second xs ms ys ts sums t h ahead =
    let own = last_path [] ys in
    let front = last_path [] sums in
    let of_own = last_parts [] ys (t ∷ []) in
    let of_sum = last_parts [] sums (t ∷ []) in record {
      rest_of_a = h.rest_of_a;
      rest_of_b = subst (λ (path : List ℕ). AreInPreorder path ts) (sym of_own) h.rest_of_b.1;
      tree = more_tree sums t h.tree h.second.1;
      some = λ some_a some_b.
          let parts = some_parts ys (t ∷ []) some_b in some_of_parts sums (t ∷ []) (h.some some_a parts.0) parts.1;
      counted = λ count path adds.
          let so_far = h.counted count path adds in
          let a = more_counted count path ys t in
          let b = more_counted count path sums t in
          let same = same_here count path own front t h.second.0 in
          omega (arith, so_far, a, b, same);
      first = subst (λ (path : List ℕ). StandsAlike (last_path [] xs) path ms) (sym of_sum)
          (other_rest (last_path [] xs) front t ms h.second.1 h.first ahead);
      second = subst (λ (path : List ℕ). StandsAlike path (last_path [] (sums ++ t ∷ [])) ts) (sym of_own)
          (subst (λ (path : List ℕ). StandsAlike (path_after own t) path ts) (sym of_sum)
          (own_rest own front t ts h.second.0 h.rest_of_b.1));
    }

-- neither goes before the other
and_rest : (a b : Bool) → a ≡ true → (a && b) ≡ false → b ≡ false
and_rest true b h k = k
and_rest false b h k = absurd (false≢true h)

same_order : (s t : CallNode) → comes_first s t ≡ false → comes_first t s ≡ false → (t.depth ≡ s.depth) × (t.function ≡ s.function)
same_order s t one other =
    let p = or_parts (nat_lt t.depth s.depth) ((s.depth == t.depth) && nat_lt s.function t.function) one in
    let q = or_parts (nat_lt s.depth t.depth) ((t.depth == s.depth) && nat_lt t.function s.function) other in
    let not_deeper = not_less_by t.depth s.depth p.0 in
    let not_higher = not_less_by s.depth t.depth q.0 in
    let deep : t.depth ≡ s.depth = omega (arith, not_deeper, not_higher) in
    let not_below = and_rest (s.depth == t.depth) (nat_lt s.function t.function) (equal_test s.depth t.depth (sym deep)) p.1 in
    let not_above = and_rest (t.depth == s.depth) (nat_lt t.function s.function) (equal_test t.depth s.depth deep) q.1 in
    let low = not_less_by s.function t.function not_below in
    let high = not_less_by t.function s.function not_above in
    (deep, omega (arith, low, high))

same_spot : (front : List ℕ) (s t : CallNode) → t.depth ≡ s.depth → t.function ≡ s.function
    → path_after front t ≡ path_after front s
same_spot front s t deep own =
    ap (λ (n : ℕ). take n front ++ t.function ∷ []) deep ∙ ap (λ (f : ℕ). take s.depth front ++ f ∷ []) own

sum_if : (b : Bool) (n m : ℕ) → cond b (n + m) 0 ≡ cond b n 0 + cond b m 0
sum_if true n m = refl
sum_if false n m = omega arith

-- both
take_both : (xs ss ys ts sums : List CallNode) (s t : CallNode) → SoFar xs (s ∷ ss) ys (t ∷ ts) sums → t.depth ≡ s.depth
    → t.function ≡ s.function → SoFar (xs ++ s ∷ []) ss (ys ++ t ∷ []) ts (sums ++ (sum_of_nodes s t).node ∷ [])
take_both xs ss ys ts sums s t h deep function =
    let new = (sum_of_nodes s t).node in
    let count_in_a = last_path [] xs in
    let count_in_b = last_path [] ys in
    let front = last_path [] sums in
    let ends_a = last_parts [] xs (s ∷ []) in
    let ends_b = last_parts [] ys (t ∷ []) in
    let ends = last_parts [] sums (new ∷ []) in
    let alike : path_after front t ≡ path_after front new = same_spot front s t deep function in record {
      rest_of_a = subst (λ (path : List ℕ). AreInPreorder path ss) (sym ends_a) h.rest_of_a.1;
      rest_of_b = subst (λ (path : List ℕ). AreInPreorder path ts) (sym ends_b) h.rest_of_b.1;
      tree = more_tree sums new h.tree (record { within = h.first.1.within; rising = h.first.1.rising });
      some = λ some_a some_b.
          let node_of_first = some_parts xs (s ∷ []) some_a in
          let node_of_second = some_parts ys (t ∷ []) some_b in
          let here = node_of_first.1.0 in
          some_of_parts sums (new ∷ []) (h.some node_of_first.0 node_of_second.0) (omega (arith, here), tt);
      counted = λ count path adds.
          let so_far = h.counted count path adds in
          let a = more_counted count path xs s in
          let b = more_counted count path ys t in
          let c = more_counted count path sums new in
          let same_a = same_here count path count_in_a front s h.first.0 in
          let same_b = same_here count path count_in_b front t h.second.0 in
          let moved = ap (λ (p : List ℕ). cond (bytes_eq p path) (count t) 0) alike in
          let both = ap (λ (n : ℕ). cond (bytes_eq (path_after front new) path) n 0) (adds s t) in
          let parts = sum_if (bytes_eq (path_after front new) path) (count s) (count t) in
          omega (arith, so_far, a, b, c, same_a, same_b, moved, both, parts);
      first = subst (λ (path : List ℕ). StandsAlike path (last_path [] (sums ++ new ∷ [])) ss) (sym ends_a)
          (subst (λ (path : List ℕ). StandsAlike (path_after count_in_a s) path ss) (sym ends)
          (own_rest count_in_a front s ss h.first.0 h.rest_of_a.1));
      second = subst (λ (path : List ℕ). StandsAlike path (last_path [] (sums ++ new ∷ [])) ts) (sym ends_b)
          (subst (λ (path : List ℕ). StandsAlike (path_after count_in_b t) path ts) (alike ∙ sym ends)
          (own_rest count_in_b front t ts h.second.0 h.rest_of_b.1));
    }

-- ---- the next of both

abbrev Goes : List CallNode → List CallNode → List CallNode → List CallNode → List CallNode → NextNode → Type 0
Goes xs ms ys bs sums next = SoFar (xs ++ take next.count_in_a ms) (drop next.count_in_a ms) (ys ++ take next.count_in_b bs) (drop next.count_in_b bs)
    (sums ++ next.node ∷ [])

goes_first_alone : (xs ss ys bs sums : List CallNode) (s : CallNode) → SoFar (xs ++ s ∷ []) ss ys bs (sums ++ s ∷ [])
    → Goes xs (s ∷ ss) ys bs sums (node_of_first s)
goes_first_alone xs ss ys bs sums s h =
    subst (λ (zs : List CallNode). SoFar (xs ++ s ∷ []) ss zs bs (sums ++ s ∷ [])) (sym (append-nil ys)) h

goes_second_alone : (xs ms ys ts sums : List CallNode) (t : CallNode) → SoFar xs ms (ys ++ t ∷ []) ts (sums ++ t ∷ [])
    → Goes xs ms ys (t ∷ ts) sums (node_of_second t)
goes_second_alone xs ms ys ts sums t h =
    subst (λ (zs : List CallNode). SoFar zs ms (ys ++ t ∷ []) ts (sums ++ t ∷ [])) (sym (append-nil xs)) h

goes_both : (xs ss ys ts sums : List CallNode) (s t : CallNode) → SoFar xs (s ∷ ss) ys (t ∷ ts) sums
    → Goes xs (s ∷ ss) ys (t ∷ ts) sums (next_of_nodes s t)
goes_both xs ss ys ts sums s t h =
    let P : NextNode → Type 0 = λ next. Goes xs (s ∷ ss) ys (t ∷ ts) sums next in
    elim (cases_Bool (comes_first s t)) [
      | inl one ↦ subst P (sym (ap (λ (b : Bool). cond b (node_of_first s) (cond (comes_first t s) (node_of_second t) (sum_of_nodes s t))) one))
          (goes_first_alone xs ss ys (t ∷ ts) sums s (take_first xs ss ys (t ∷ ts) sums s h one))
      | inr not_one ↦
          let rest = ap (λ (b : Bool). cond b (node_of_first s) (cond (comes_first t s) (node_of_second t) (sum_of_nodes s t))) not_one in
          elim (cases_Bool (comes_first t s)) [
            | inl other ↦ subst P (sym (rest ∙ ap (λ (b : Bool). cond b (node_of_second t) (sum_of_nodes s t)) other))
                (goes_second_alone xs (s ∷ ss) ys ts sums t (take_second xs (s ∷ ss) ys ts sums t h other))
            | inr not_other ↦ let same = same_order s t not_one not_other in
                subst P (sym (rest ∙ ap (λ (b : Bool). cond b (node_of_second t) (sum_of_nodes s t)) not_other))
                (take_both xs ss ys ts sums s t h same.0 same.1)
          ]
    ]

goes : (xs ms ys bs sums : List CallNode) → 0 < length ms + length bs → SoFar xs ms ys bs sums
    → Goes xs ms ys bs sums (next_of ms bs)
goes xs [] ys [] sums some h = absurd (omega arith)
goes xs (s ∷ ss) ys [] sums some h = goes_first_alone xs ss ys [] sums s (take_first xs ss ys [] sums s h tt)
goes xs [] ys (t ∷ ts) sums some h = goes_second_alone xs [] ys ts sums t (take_second xs [] ys ts sums t h tt)
goes xs (s ∷ ss) ys (t ∷ ts) sums some h = goes_both xs ss ys ts sums s t h

pub each_push : (P : CallNode → Type 0) (xs : List CallNode) (s : CallNode) → AllByRecursion P xs → P s → AllByRecursion P (xs ++ s ∷ [])
each_push P [] s h p = (p, tt)
each_push P (x ∷ xs) s h p = (h.0, each_push P xs s h.1 p)

-- ---- by places

-- so much of both is added
abbrev pub Added : List CallNode → List CallNode → ℕ → ℕ → List CallNode → Type 0
Added a b i j sums = SoFar (take i a) (drop i a) (take j b) (drop j b) sums

alike_at_first : (ss : List CallNode) → IsTree ss → StandsAlike [] [] ss
alike_at_first [] h = tt
alike_at_first (s ∷ ss) h = (refl, h.0)

pub none_added : (a b : List CallNode) → IsTree a → IsTree b → Added a b 0 0 []
none_added a b tree_a tree_b = record {
  rest_of_a = tree_a;
  rest_of_b = tree_b;
  tree = tt;
  some = λ some_a some_b. tt;
  counted = λ count path adds. refl;
  first = alike_at_first a tree_a;
  second = alike_at_first b tree_b;
}

pub more_added : (a b sums : List CallNode) (i j : ℕ) (next : NextNode) → Added a b i j sums
    → 0 < length (drop i a) + length (drop j b) → next ≡ next_of (drop i a) (drop j b)
    → Added a b (i + next.count_in_a) (j + next.count_in_b) (sums ++ next.node ∷ [])
more_added a b sums i j next h some is =
    let g = goes (take i a) (drop i a) (take j b) (drop j b) sums some h in
    let there : Goes (take i a) (drop i a) (take j b) (drop j b) sums next =
    subst (λ (n : NextNode). Goes (take i a) (drop i a) (take j b) (drop j b) sums n) (sym is) g in
    subst (λ (zs : List CallNode). SoFar (take (i + next.count_in_a) a) (drop (i + next.count_in_a) a) zs (drop (j + next.count_in_b) b) (sums ++ next.node ∷ []))
    (sym (take-add j next.count_in_b b))
    (subst (λ (zs : List CallNode). SoFar zs (drop (i + next.count_in_a) a) (take j b ++ take next.count_in_b (drop j b)) (drop (j + next.count_in_b) b) (sums ++ next.node ∷ []))
    (sym (take-add i next.count_in_a a))
    (subst (λ (zs : List CallNode). SoFar (take i a ++ take next.count_in_a (drop i a)) (drop (i + next.count_in_a) a) (take j b ++ take next.count_in_b (drop j b)) zs (sums ++ next.node ∷ []))
    (drop-drop next.count_in_b j b)
    (subst (λ (zs : List CallNode). SoFar (take i a ++ take next.count_in_a (drop i a)) zs (take j b ++ take next.count_in_b (drop j b)) (drop next.count_in_b (drop j b)) (sums ++ next.node ∷ []))
    (drop-drop next.count_in_a i a) there)))

pub all_added : (a b sums : List CallNode) (i j : ℕ) → Added a b i j sums → length a ≤ i → length b ≤ j → IsSumOfCallTrees a b sums
all_added a b sums i j h over_a over_b =
    let whole = λ (count : CallNode → ℕ) (path : List ℕ) (adds : (s t : CallNode) → count (sum_of_nodes s t).node ≡ count s + count t).
    h.counted count path adds
    ∙ (λ k. sum_over_path count path [] (take_all i a over_a k) + sum_over_path count path [] (take_all j b over_b k)) in record {
      tree = h.tree;
      some = λ some_a some_b. h.some (subst HasCalls (sym (take_all i a over_a)) some_a)
          (subst HasCalls (sym (take_all j b over_b)) some_b);
      calls = λ path. whole calls_of_node path (λ s t. refl);
      steps = λ path. whole steps_of path (λ s t. refl);
    }

-- ---- numbers that do not fit

same_bytes : (p : List ℕ) → bytes_eq p p ≡ true
same_bytes p = (bytes_eq-Decides p p).1 refl

counted_here : (count : CallNode → ℕ) (path : List ℕ) (xs ss : List CallNode) (s : CallNode) → path_after (last_path [] xs) s ≡ path
    → count s ≤ sum_over_path count path [] (xs ++ s ∷ ss)
counted_here count path xs ss s is =
    let parts = counted_parts count path [] xs (s ∷ ss) in
    let here = ap (λ (b : Bool). cond b (count s) 0) (ap (λ (p : List ℕ). bytes_eq p path) is ∙ same_bytes path) in
    omega (arith, parts, here)

too_great_of : (xs ss ys ts sums : List CallNode) (s t : CallNode) → SoFar xs (s ∷ ss) ys (t ∷ ts) sums → comes_first s t ≡ false
    → comes_first t s ≡ false → (function : ℕ) → function ≡ s.function → CountsOverflow s t
    → IsOverflowOfTrees (Count function) (xs ++ s ∷ ss) (ys ++ t ∷ ts)
too_great_of xs ss ys ts sums s t h one other function is great =
    let same = same_order s t one other in
    let path = path_after (last_path [] sums) s in
    let at_a : path_after (last_path [] xs) s ≡ path = ap (λ (p : List ℕ). p ++ s.function ∷ []) h.first.0 in
    let at_b : path_after (last_path [] ys) t ≡ path =
    ap (λ (p : List ℕ). p ++ t.function ∷ []) h.second.0 ∙ same_spot (last_path [] sums) s t same.0 same.1 in
    let a = λ (count : CallNode → ℕ). counted_here count path xs ss s at_a in
    let b = λ (count : CallNode → ℕ). counted_here count path ys ts t at_b in (
      path,
      last_of function (take s.depth (last_path [] sums)) s.function ∙ equal_test s.function function (sym is),
      elim great [
        | inl calls ↦ let m = a calls_of_node in let n = b calls_of_node in inl (omega (arith, calls, m, n))
        | inr steps ↦ let m = a steps_of in let n = b steps_of in inr (omega (arith, steps, m, n))
      ],
    )

too_great_there : (xs ms ys bs sums : List CallNode) (error : CallTreeSumError) → SoFar xs ms ys bs sums
    → IsOverflowOfFirstNodes error ms bs → IsOverflowOfTrees error (xs ++ ms) (ys ++ bs)
too_great_there xs ms ys bs sums OutOfMemory h great = tt
too_great_there xs [] ys bs sums (Count function) h great = absurd great
too_great_there xs (s ∷ ss) ys [] sums (Count function) h great = absurd great
too_great_there xs (s ∷ ss) ys (t ∷ ts) sums (Count function) h great =
    too_great_of xs ss ys ts sums s t h great.0 great.1 function great.2 great.3

pub overflow : (a b sums : List CallNode) (i j : ℕ) (error : CallTreeSumError) → Added a b i j sums
    → IsOverflowOfFirstNodes error (drop i a) (drop j b) → IsOverflowOfTrees error a b
overflow a b sums i j error h great =
    subst (λ (zs : List CallNode). IsOverflowOfTrees error a zs) (take-append-drop j b)
    (subst (λ (zs : List CallNode). IsOverflowOfTrees error zs (take j b ++ drop j b)) (take-append-drop i a)
    (too_great_there (take i a) (drop i a) (take j b) (drop j b) sums error h great))

-- ---- how many of each

one_of_both : (b d : Bool) (s t : CallNode) → let next = cond b (node_of_first s) (cond d (node_of_second t) (sum_of_nodes s t)) in
    (next.count_in_a ≤ 1) × (next.count_in_b ≤ 1) × (0 < next.count_in_a + next.count_in_b)
one_of_both true d s t = (omega arith, omega arith, omega arith)
one_of_both false true s t = (omega arith, omega arith, omega arith)
one_of_both false false s t = (omega arith, omega arith, omega arith)

-- of each list at most what it has, and of one of them one
pub record FewOf (ms bs : List CallNode) (next : NextNode) : Type 0 where
  pub count_in_a : next.count_in_a ≤ length ms
  pub count_in_b : next.count_in_b ≤ length bs
  pub some : 0 < next.count_in_a + next.count_in_b

pub few_of : (ms bs : List CallNode) → 0 < length ms + length bs → FewOf ms bs (next_of ms bs)
few_of [] [] some = absurd (omega arith)
few_of (s ∷ ss) [] some = record { count_in_a = omega arith; count_in_b = omega arith; some = omega arith }
few_of [] (t ∷ ts) some = record { count_in_a = omega arith; count_in_b = omega arith; some = omega arith }
few_of (s ∷ ss) (t ∷ ts) some =
    let h = one_of_both (comes_first s t) (comes_first t s) s t in
    let a = h.0 in
    let b = h.1 in record { count_in_a = omega (arith, a); count_in_b = omega (arith, b); some = h.2 }
