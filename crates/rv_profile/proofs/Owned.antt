-- The own steps of the functions that have names are all steps.
use Rattle.std.proofs.Common.{◌≡◌, ◌∙◌, ◌==◌, ◌+◌, ◌<◌, ◌∷◌, [], ℕ, Bool, true, false, cond, List, Some, ap, arith, map, refl}
use Rattle.std.specs.Prelude.{nat_le}
use Rattle.std.proofs.lemmas.Bool.{and_parts, eqb-true, leb-true, ne_eqb}
use Rattle.std.proofs.lemmas.List.Sorted.{sum_by-IsPermutation}
use Rattle.std.proofs.lemmas.List.Sums.{sum_by-cons}
use Rattle.rv_count_tables.specs.Table.{AreNamesOf, has_name, name_of, functions_increase_from}
use Rattle.rv_count_tables.specs.declared.table.FunctionName.{FunctionName}
use Rattle.rv_count_tables.specs.Profiles.{AreFunctionsOf, own_steps_of_all, times}
use Rattle.rv_count_tables.specs.Trees.{one_if}
use Rattle.rv_count_tables.specs.declared_call_node.CallNode.{CallNode}
use Rattle.rv_profile.specs.Profile.{IsProfileOf, FunctionCounts, total_own_steps, function_counts}

abbrev pub function_of : FunctionName → ℕ
function_of n = n.function

none_below : (low f : ℕ) (names : List FunctionName) → functions_increase_from low names ≡ true → f < low → times f (map function_of names) ≡ 0
unfolding functions_increase_from
none_below low f [] rise lt = refl
none_below low f (n ∷ ns) rise lt =
    let both = and_parts (nat_le low n.function) (functions_increase_from (n.function + 1) ns) rise in
    let above = leb-true low n.function both.0 in
    let rest = none_below (n.function + 1) f ns both.1 (omega (arith, above, lt)) in
    let here = ap one_if (ne_eqb n.function f (λ is. omega (arith, above, lt, is))) in
    omega (arith, here, rest)

named_once : (low f : ℕ) (names : List FunctionName) → functions_increase_from low names ≡ true
    → times f (map function_of names) ≡ one_if (has_name (name_of f names))
unfolding functions_increase_from
named_once low f [] rise = refl
named_once low f (n ∷ ns) rise =
    let both = and_parts (nat_le low n.function) (functions_increase_from (n.function + 1) ns) rise in
    go (n.function == f) refl both.1 (named_once (n.function + 1) f ns both.1)
  where
    go : (same : Bool) → (n.function == f) ≡ same → functions_increase_from (n.function + 1) ns ≡ true
        → times f (map function_of ns) ≡ one_if (has_name (name_of f ns))
        → one_if (n.function == f) + times f (map function_of ns)
        ≡ one_if (has_name (cond (n.function == f) (Some n.name) (name_of f ns)))
    go true is behind rest =
        let here = ap one_if is in
        let named = ap (λ (b : Bool). one_if (has_name (cond b (Some n.name) (name_of f ns)))) is in
        let equal = eqb-true n.function f is in
        let none = none_below (n.function + 1) f ns behind (omega (arith, equal)) in
        omega (arith, here, named, none)
    go false is behind rest =
        let here = ap one_if is in
        let named = ap (λ (b : Bool). one_if (has_name (cond b (Some n.name) (name_of f ns)))) is in
        omega (arith, here, named, rest)

pub are_functions : (nodes : List CallNode) (names : List FunctionName) → functions_increase_from 0 names ≡ true → AreNamesOf nodes names
    → AreFunctionsOf nodes (map function_of names)
are_functions nodes names rise of = record { once = λ f. named_once 0 f names rise ∙ ap one_if (of f) }

pub own_of_names : (nodes : List CallNode) (names : List FunctionName) → total_own_steps (map (function_counts nodes) names) ≡ own_steps_of_all (map function_of names) nodes
own_of_names nodes [] = refl
own_of_names nodes (n ∷ ns) =
    let h = own_of_names nodes ns in
    let a = sum_by-cons (λ (p : FunctionCounts). p.own) (function_counts nodes n) (map (function_counts nodes) ns) in
    omega (arith, h, a)

pub own_of_profile : (nodes : List CallNode) (names : List FunctionName) (found : List FunctionCounts) → IsProfileOf nodes names found
    → total_own_steps found ≡ own_steps_of_all (map function_of names) nodes
own_of_profile nodes names found is =
    sum_by-IsPermutation (λ (p : FunctionCounts). p.own) (map (function_counts nodes) names) found is.each ∙ own_of_names nodes names
