-- Counts for each function, from the nodes of a call tree.
use Rattle.std.specs.Prelude.{◌≡◌, ◌==◌, ◌+◌, ℕ, Bool, if◌then◌else◌, List, [], ◌∷◌, ◌++◌}
use Rattle.std.specs.List.{list_any}
use Rattle.rv_call_tree.specs.declared.function_steps.FunctionSteps.{FunctionSteps}
use Rattle.rv_call_tree.specs.declared.call_node.CallNode.{CallNode}
use Rattle.rv_call_tree.specs.Trees.{sum_over_nodes, one_if, own_steps_of, path_after, steps_if}

-- whether a path has the function
abbrev pub has_function : ℕ → List ℕ → Bool
has_function function path = list_any (λ f. f == function) path

-- the number of calls of a function: the sum of `calls` over the nodes whose paths end in it
abbrev pub calls_of_function : ℕ → List CallNode → ℕ
calls_of_function function nodes = sum_over_nodes (λ s. steps_if (s.function == function) s.calls) nodes

-- the inclusive steps of a function: the sum of the own steps of the nodes whose paths have it anywhere, each node counted once;
-- `previous_path` is the path of the node before these nodes
abbrev pub inclusive_steps_after : ℕ → List ℕ → List CallNode → ℕ
inclusive_steps_after function previous_path [] = 0
inclusive_steps_after function previous_path (node ∷ nodes) = steps_if (has_function function (path_after previous_path node)) node.steps
    + inclusive_steps_after function (path_after previous_path node) nodes

-- `steps` has the own steps, the inclusive steps and the calls of the function in the call tree
pub record AreStepsOf (function : ℕ) (nodes : List CallNode) (steps : FunctionSteps) : Type 0 where
  pub own : steps.own ≡ own_steps_of function nodes
  pub inclusive : steps.inclusive ≡ inclusive_steps_after function [] nodes
  pub calls : steps.calls ≡ calls_of_function function nodes

-- ---- the functions of nodes

-- how often a function occurs in a list
abbrev pub times : ℕ → List ℕ → ℕ
times function [] = 0
times function (f ∷ fs) = one_if (f == function) + times function fs

-- whether the path of at least one node ends in the function
abbrev pub ends_some_path : ℕ → List CallNode → Bool
ends_some_path function nodes = list_any (λ s. s.function == function) nodes

-- the list has exactly the functions in which the nodes' paths end, each once
pub record AreFunctionsOf (nodes : List CallNode) (functions : List ℕ) : Type 0 where
  pub once : (function : ℕ) → times function functions ≡ one_if (ends_some_path function nodes)

-- the list with the function appended, or unchanged if it already has the function
abbrev pub with_function : ℕ → List ℕ → List ℕ
with_function function functions = if has_function function functions then functions else functions ++ function ∷ []

-- the sum of the own steps of these functions
abbrev pub own_steps_of_all : List ℕ → List CallNode → ℕ
own_steps_of_all [] nodes = 0
own_steps_of_all (f ∷ fs) nodes = own_steps_of f nodes + own_steps_of_all fs nodes
