-- The sums of the first spots: one more, and no more than all.
use Rattle.std.proofs.Common.{◌≡◌, ◌∙◌, ◌+◌, ◌^◌, ◌<◌, ◌≤◌, ◌&&◌, ℕ, Bool, true, false, cond, List, [], ◌∷◌, ◌++◌, Some, None, length, take, drop, get_or, refl, sym, ap, arith, inl, inr}
use Rattle.std.specs.Prelude.{nat_lt}
use Rattle.std.proofs.lemmas.Bool.{and_cases, and_left, and_right, le-ltb, ltb-false}
use Rattle.std.proofs.lemmas.List.{take_all, take_more, take-append-drop}
use Rattle.rv_count_tables.specs.Trees.{calls_of_node, sum_over_nodes, steps_of}
use Rattle.rv_count_tables.specs.declared_call_node.CallNode.{CallNode}
use Rattle.rv_profile.specs.ImageStacks.{fit_in_64_bits, if_fitting, sums_of, with_node}
use Rattle.rv_profile.specs.declared.sums.Sums.{Sums}

sum_parts : (count : CallNode → ℕ) (xs ys : List CallNode)
    → sum_over_nodes count (xs ++ ys) ≡ sum_over_nodes count xs + sum_over_nodes count ys
sum_parts count [] ys = omega arith
sum_parts count (x ∷ xs) ys = let h = sum_parts count xs ys in omega (arith, h)

counted_more : (count : CallNode → ℕ) (nodes : List CallNode) (k : ℕ) (d : CallNode) → k < length nodes
    → sum_over_nodes count (take (k + 1) nodes) ≡ sum_over_nodes count (take k nodes) + count (get_or nodes k d)
counted_more count nodes k d within =
    let more = ap (sum_over_nodes count) (take_more nodes k d within) in
    let parts = sum_parts count (take k nodes) (get_or nodes k d ∷ []) in
    omega (arith, more, parts)

first_at_most : (count : CallNode → ℕ) (nodes : List CallNode) (k : ℕ) → sum_over_nodes count (take k nodes) ≤ sum_over_nodes count nodes
first_at_most count nodes k =
    let parts = sum_parts count (take k nodes) (drop k nodes) in
    let whole = ap (sum_over_nodes count) (take-append-drop k nodes) in
    omega (arith, parts, whole)

-- one spot more
sums_more : (nodes : List CallNode) (k : ℕ) (d : CallNode) → k < length nodes
    → sums_of (take (k + 1) nodes) ≡ with_node (sums_of (take k nodes)) (get_or nodes k d)
sums_more nodes k d within = λ i. record {
  steps = counted_more steps_of nodes k d within i;
  calls = counted_more calls_of_node nodes k d within i;
}

-- ---- both are numbers of 64 bits

fit_by : (few : Bool) (t s : Sums) → Some s ≡ cond few (Some t) None → (s ≡ t) × (few ≡ true)
fit_by true t s is = (cc, refl)
fit_by false t s is = absurd cc

pub fit : (t s : Sums) → Some s ≡ if_fitting t → (s ≡ t) × (fit_in_64_bits s ≡ true)
fit t s is =
    let both = fit_by (fit_in_64_bits t) t s is in
    (both.0, ap fit_in_64_bits both.0 ∙ both.1)

none_fit : (t : Sums) → None ≡ if_fitting t → fit_in_64_bits t ≡ false
none_fit t is = go (fit_in_64_bits t) refl is
  where
    go : (few : Bool) → fit_in_64_bits t ≡ few → None ≡ cond few (Some t) None → fit_in_64_bits t ≡ false
    go true few is = absurd cc
    go false few is = few

-- what is past 64 bits in some is past them in more
past_in_more : (s t a b : ℕ) → s ≤ t → a ≤ b → nat_lt s (2 ^ 64) && nat_lt a (2 ^ 64) ≡ false
    → nat_lt t (2 ^ 64) && nat_lt b (2 ^ 64) ≡ false
past_in_more s t a b st ab past = elim (and_cases (nat_lt s (2 ^ 64)) (nat_lt a (2 ^ 64)) past) [
  | inl many ↦ let high = ltb-false s (2 ^ 64) many in and_left (nat_lt t (2 ^ 64)) (nat_lt b (2 ^ 64)) (le-ltb t (2 ^ 64) (omega (arith, high, st)))
  | inr many ↦ let high = ltb-false a (2 ^ 64) many in and_right (nat_lt t (2 ^ 64)) (nat_lt b (2 ^ 64)) (le-ltb b (2 ^ 64) (omega (arith, high, ab)))
]

past_with : (nodes : List CallNode) (k : ℕ) (d : CallNode) → k < length nodes
    → fit_in_64_bits (with_node (sums_of (take k nodes)) (get_or nodes k d)) ≡ false → fit_in_64_bits (sums_of nodes) ≡ false
past_with nodes k d within past =
    past_in_more _ _ _ _ (first_at_most steps_of nodes (k + 1)) (first_at_most calls_of_node nodes (k + 1))
    (ap fit_in_64_bits (sums_more nodes k d within) ∙ past)

-- with a spot more
pub one_more : (nodes : List CallNode) (k : ℕ) (d : CallNode) (s t : Sums) → k < length nodes → s ≡ sums_of (take k nodes)
    → Some t ≡ if_fitting (with_node s (get_or nodes k d)) → (t ≡ sums_of (take (k + 1) nodes)) × (fit_in_64_bits t ≡ true)
one_more nodes k d s t within is more =
    let both = fit (with_node s (get_or nodes k d)) t more in
    (both.0 ∙ ap (λ (r : Sums). with_node r (get_or nodes k d)) is ∙ sym (sums_more nodes k d within), both.1)

pub none_of_all : (nodes : List CallNode) (k : ℕ) (d : CallNode) (s : Sums) → k < length nodes → s ≡ sums_of (take k nodes)
    → None ≡ if_fitting (with_node s (get_or nodes k d)) → None ≡ if_fitting (sums_of nodes)
none_of_all nodes k d s within is none =
    let past = ap (λ (r : Sums). fit_in_64_bits (with_node r (get_or nodes k d))) (sym is) ∙ none_fit (with_node s (get_or nodes k d)) none in
    sym (ap (λ (b : Bool). cond b (Some (sums_of nodes)) None) (past_with nodes k d within past))

pub all_fit : (nodes : List CallNode) (k : ℕ) (s : Sums) → length nodes ≤ k → s ≡ sums_of (take k nodes) → fit_in_64_bits s ≡ true
    → Some s ≡ if_fitting (sums_of nodes)
all_fit nodes k s all is few =
    let same : s ≡ sums_of nodes = is ∙ ap sums_of (take_all k nodes all) in
    ap Some same ∙ sym (ap (λ (b : Bool). cond b (Some (sums_of nodes)) None) (sym (ap fit_in_64_bits same) ∙ few))
