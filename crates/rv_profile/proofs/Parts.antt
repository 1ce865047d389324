-- What functions have of the steps of all spots is no more than that.
use Rattle.std.proofs.Common.{◌==◌, ◌≤◌, Bool, true, false, ℕ, List, [], ◌∷◌, arith}
use Rattle.rv_count_tables.specs.Profiles.{has_function, inclusive_steps_after}
use Rattle.rv_count_tables.specs.Trees.{all_steps, own_steps_of, path_after, steps_if}
use Rattle.rv_count_tables.specs.declared_call_node.CallNode.{CallNode}
use Rattle.std.specs.List.Sorted.{IsPermutation}
use Rattle.std.specs.Prelude.{map}
use Rattle.std.proofs.lemmas.List.Elements.{All-cons, All-nil}
use Rattle.std.proofs.lemmas.List.Sorted.{All-permutation}
use Rattle.rv_count_tables.specs.declared.table.FunctionName.{FunctionName}
use Rattle.rv_profile.specs.Profile.{AreWithin, IsWithin, FunctionCounts, function_counts}

if_at_most : (test : Bool) (n : ℕ) → steps_if test n ≤ n
if_at_most true n = omega arith
if_at_most false n = omega arith

own_at_most : (function : ℕ) (nodes : List CallNode) → own_steps_of function nodes ≤ all_steps nodes
own_at_most function [] = omega arith
own_at_most function (s ∷ ss) =
    let here = if_at_most (s.function == function) s.steps in
    let rest = own_at_most function ss in
    omega (arith, here, rest)

inclusive_at_most : (function : ℕ) (front : List ℕ) (nodes : List CallNode) → inclusive_steps_after function front nodes ≤ all_steps nodes
inclusive_at_most function front [] = omega arith
inclusive_at_most function front (s ∷ ss) =
    let here = if_at_most (has_function function (path_after front s)) s.steps in
    let rest = inclusive_at_most function (path_after front s) ss in
    omega (arith, here, rest)

named_within : (nodes : List CallNode) (names : List FunctionName) → AreWithin (all_steps nodes) (map (function_counts nodes) names)
named_within nodes [] = All-nil (IsWithin (all_steps nodes))
named_within nodes (n ∷ ns) =
    All-cons (IsWithin (all_steps nodes)) (function_counts nodes n) (map (function_counts nodes) ns)
    (own_at_most n.function nodes, inclusive_at_most n.function [] nodes) (named_within nodes ns)

pub profile_within : (nodes : List CallNode) (names : List FunctionName) (found : List FunctionCounts) → IsPermutation (map (function_counts nodes) names) found
    → AreWithin (all_steps nodes) found
profile_within nodes names found each =
    All-permutation (IsWithin (all_steps nodes)) (map (function_counts nodes) names) found each (named_within nodes names)
