-- The nodes of a call tree in preorder: the path of functions that leads to each, and the counts of each path.
use Rattle.std.specs.Prelude.{◌==◌, ◌+◌, ◌<◌, ◌≤◌, ℕ, Bool, false, if◌then◌else◌, List, [], ◌∷◌, ◌++◌, length, take, slice_index_or}
use Rattle.std.specs.Coded.{×_prop, Unit-prop, le_prop}
use Rattle.std.specs.Str.{bytes_eq}
use Rattle.rv_call_tree.specs.declared.call_node.CallNode.{CallNode}

-- ---- the path of a node

-- the path of `node`, which follows a node with the path `previous_path`: the first `node.depth` functions of `previous_path`, then the
-- node's own function
abbrev pub path_after : List ℕ → CallNode → List ℕ
path_after previous_path node = take node.depth previous_path ++ node.function ∷ []

-- the path of the last of these nodes, or `previous_path`, the path of the node before them, if there are none
abbrev pub last_path : List ℕ → List CallNode → List ℕ
last_path previous_path [] = previous_path
last_path previous_path (node ∷ nodes) = last_path (path_after previous_path node) nodes

-- the path of the last of the first `count` nodes, or an empty path if `count` is 0
abbrev pub path_after_first : ℕ → List CallNode → List ℕ
path_after_first count nodes = last_path [] (take count nodes)

-- ---- the counts

-- 1 if the condition is true, else 0
abbrev pub one_if : Bool → ℕ
one_if condition = if condition then 1 else 0

-- the sum of `count` over the nodes with the path `path`; `previous_path` is the path of the node before these nodes
abbrev pub sum_over_path : (CallNode → ℕ) → List ℕ → List ℕ → List CallNode → ℕ
sum_over_path count path previous_path [] = 0
sum_over_path count path previous_path (node ∷ nodes) =
    (if bytes_eq (path_after previous_path node) path then count node else 0) + sum_over_path count path (path_after previous_path node) nodes

-- the number of calls that led to the node
abbrev pub calls_of_node : CallNode → ℕ
calls_of_node node = node.calls

-- the number of instructions executed in the node
abbrev pub steps_of : CallNode → ℕ
steps_of node = node.steps

-- how often a run entered this path
abbrev pub calls_at : List ℕ → List CallNode → ℕ
calls_at path nodes = sum_over_path calls_of_node path [] nodes

-- how many instructions a run executed in this path
abbrev pub steps_at : List ℕ → List CallNode → ℕ
steps_at path nodes = sum_over_path steps_of path [] nodes

-- the sum of `count` over all nodes
abbrev pub sum_over_nodes : (CallNode → ℕ) → List CallNode → ℕ
sum_over_nodes count [] = 0
sum_over_nodes count (node ∷ nodes) = count node + sum_over_nodes count nodes

-- the sum of the calls of all nodes
abbrev pub all_calls : List CallNode → ℕ
all_calls nodes = sum_over_nodes calls_of_node nodes

-- the sum of the instructions executed in all nodes
abbrev pub all_steps : List CallNode → ℕ
all_steps nodes = sum_over_nodes steps_of nodes

-- `steps` if the condition is true, else 0
abbrev pub steps_if : Bool → ℕ → ℕ
steps_if condition steps = if condition then steps else 0

-- the own steps of a function: the sum of the steps of the nodes whose paths end in it
abbrev pub own_steps_of : ℕ → List CallNode → ℕ
own_steps_of function nodes = sum_over_nodes (λ s. steps_if (s.function == function) s.steps) nodes

-- whether the path ends in the function
abbrev pub ends_with : ℕ → List ℕ → Bool
ends_with function [] = false
ends_with function (f ∷ []) = f == function
ends_with function (f ∷ g ∷ gs) = ends_with function (g ∷ gs)

-- ---- nodes that form a tree

-- the node may follow a node with the path `previous_path`: it is at most one deeper; if it is not deeper, its function address is greater
-- than the address of its preceding sibling, which is the function of `previous_path` at this depth
pub record MayFollow (previous_path : List ℕ) (node : CallNode) : Type 0 where
  pub within : node.depth ≤ length previous_path
  pub rising : node.depth < length previous_path → slice_index_or previous_path node.depth 0 < node.function

-- each node may follow the node before it; `previous_path` is the path of the node before the first
abbrev pub AreInPreorder : List ℕ → List CallNode → Type 0
AreInPreorder previous_path [] = Unit {0}
AreInPreorder previous_path (node ∷ nodes) = MayFollow previous_path node × AreInPreorder (path_after previous_path node) nodes

-- the nodes are a call tree in preorder: each path occurs once, siblings are sorted by function address, and each node comes after its
-- parent
abbrev pub IsTree : List CallNode → Type 0
IsTree nodes = AreInPreorder [] nodes

-- any two proofs of `MayFollow` are equal
MayFollow-prop : (previous_path : List ℕ) (s : CallNode) → IsProp (MayFollow previous_path s)
MayFollow-prop previous_path s h k = λ i. record {
  within = le_prop h.within k.within i;
  rising = λ low. le_prop (h.rising low) (k.rising low) i;
}

-- any two proofs of `AreInPreorder` are equal
pub AreInPreorder-prop : (previous_path : List ℕ) (nodes : List CallNode) → IsProp (AreInPreorder previous_path nodes)
AreInPreorder-prop previous_path [] = Unit-prop
AreInPreorder-prop previous_path (s ∷ ss) = ×_prop (MayFollow-prop previous_path s) (AreInPreorder-prop (path_after previous_path s) ss)

-- every node was entered at least once
abbrev pub HasCalls : List CallNode → Type 0
HasCalls [] = Unit {0}
HasCalls (node ∷ nodes) = (0 < node.calls) × HasCalls nodes
