-- Spots in two parts.
use Rattle.std.proofs.Common.{◌≡◌, ◌∙◌, ◌+◌, ◌≤◌, ℕ, List, [], ◌∷◌, ◌++◌, length, take, refl, sym, ap, arith, length-append}
use Rattle.std.proofs.lemmas.List.{take-take, length-take-le}
use Rattle.rv_call_tree.specs.declared.call_node.CallNode.{CallNode}
use Rattle.rv_call_tree.specs.Trees.{path_after, last_path, path_after_first, sum_over_path, sum_over_nodes, HasCalls, AreInPreorder}

pub last_parts : (front : List ℕ) (xs ys : List CallNode) → last_path front (xs ++ ys) ≡ last_path (last_path front xs) ys
last_parts front [] ys = refl
last_parts front (s ∷ ss) ys = last_parts (path_after front s) ss ys

pub counted_parts : (count : CallNode → ℕ) (path front : List ℕ) (xs ys : List CallNode)
    → sum_over_path count path front (xs ++ ys)
    ≡ sum_over_path count path front xs + sum_over_path count path (last_path front xs) ys
counted_parts count path front [] ys = omega arith
counted_parts count path front (s ∷ ss) ys =
    let h = counted_parts count path (path_after front s) ss ys in omega (arith, h)

pub sum_parts : (count : CallNode → ℕ) (xs ys : List CallNode) → sum_over_nodes count (xs ++ ys) ≡ sum_over_nodes count xs + sum_over_nodes count ys
sum_parts count [] ys = omega arith
sum_parts count (s ∷ ss) ys = let h = sum_parts count ss ys in omega (arith, h)

pub some_parts : (xs ys : List CallNode) → HasCalls (xs ++ ys) → HasCalls xs × HasCalls ys
some_parts [] ys h = (tt, h)
some_parts (s ∷ ss) ys h = let k = some_parts ss ys h.1 in ((h.0, k.0), k.1)

pub some_of_parts : (xs ys : List CallNode) → HasCalls xs → HasCalls ys → HasCalls (xs ++ ys)
some_of_parts [] ys h k = k
some_of_parts (s ∷ ss) ys h k = (h.0, some_of_parts ss ys h.1 k)

pub stand_of_parts : (front : List ℕ) (xs ys : List CallNode) → AreInPreorder front xs → AreInPreorder (last_path front xs) ys
    → AreInPreorder front (xs ++ ys)
stand_of_parts front [] ys h k = k
stand_of_parts front (s ∷ ss) ys h k = (h.0, stand_of_parts (path_after front s) ss ys h.1 k)

-- a spot's functions are one more than it is deep
pub length_behind : (front : List ℕ) (s : CallNode) → s.depth ≤ length front → length (path_after front s) ≡ s.depth + 1
length_behind front s within =
    let parts = length-append (take s.depth front) (s.function ∷ []) in
    let long = length-take-le s.depth front within in
    omega (arith, parts, long)

-- paths of the first spots are the same where these are the same
pub same_first : (count from : ℕ) (old new : List CallNode) → count ≤ from → take from new ≡ take from old
    → path_after_first count new ≡ path_after_first count old
same_first count from old new below same =
    ap (last_path []) (sym (take-take count from new below) ∙ ap (take count) same ∙ take-take count from old below)
