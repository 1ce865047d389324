-- The nodes of a call tree with all their descendants.
use Rattle.std.specs.Prelude.{◌≡◌, ◌==◌, ◌+◌, ℕ, nat_lt, if◌then◌else◌, List, [], ◌∷◌, length}
use Rattle.std.specs.List.{filter}
use Rattle.rv_call_tree.specs.declared.call_node.CallNode.{CallNode}
use Rattle.rv_call_tree.specs.declared.subtree.Subtree.{Subtree}
use Rattle.rv_call_tree.specs.Trees.{all_steps}

-- the descendants of a node at this depth, given the nodes after it: all nodes before the first that is not deeper
abbrev pub below : ℕ → List CallNode → List CallNode
below depth [] = []
below depth (node ∷ nodes) = if nat_lt depth node.depth then node ∷ below depth nodes else []

-- the subtree of `node` at the index `index`, given the nodes `later` after it
abbrev pub subtree : ℕ → CallNode → List CallNode → Subtree
subtree index node later = record {
  function = node.function;
  index = index;
  end = index + 1 + length (below node.depth later);
  own = node.steps;
  inclusive = node.steps + all_steps (below node.depth later);
  calls = node.calls;
}

-- the subtrees of these nodes, in order; `index` is the index of the first node
abbrev pub subtrees_from : ℕ → List CallNode → List Subtree
subtrees_from index [] = []
subtrees_from index (node ∷ nodes) = subtree index node nodes ∷ subtrees_from (index + 1) nodes

-- ---- by function

-- the subtrees whose root node has this function, in order
abbrev pub with_root_function : ℕ → List Subtree → List Subtree
with_root_function function subtrees = filter (λ s. s.function == function) subtrees

-- the subtrees of a call tree whose root node has this function, in node order
abbrev pub subtrees_of_function : ℕ → List CallNode → List Subtree
subtrees_of_function function nodes = with_root_function function (subtrees_from 0 nodes)

-- for each function, the list has the subtrees of the call tree whose root node has that function, in node order
abbrev pub AreSubtreesByFunction : List CallNode → List Subtree → Type 0
AreSubtreesByFunction nodes subtrees = (function : ℕ) → with_root_function function subtrees ≡ subtrees_of_function function nodes
