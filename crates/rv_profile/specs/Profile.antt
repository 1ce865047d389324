-- The profile of an image: its steps by function, from its call tree.
use Rattle.std.specs.Prelude.{◌==◌, ◌≤◌, ◌&&◌, ◌||◌, ℕ, Bool, nat_lt, List, [], map}
use Rattle.std.specs.List.{All, sum_by}
use Rattle.std.specs.List.Sorted.{IsPermutation, IsSortedBy}
use Rattle.rv_count_tables.specs.declared.table.FunctionName.{FunctionName}
use Rattle.rv_count_tables.specs.Profiles.{calls_of_function, inclusive_steps_after}
use Rattle.rv_count_tables.specs.Trees.{own_steps_of}
use Rattle.rv_count_tables.specs.declared_call_node.CallNode.{CallNode}
use Rattle.rv_profile.specs.declared.function.FunctionProfile.{FunctionProfile}

-- the counts of a function: its own steps, which are the steps of the nodes whose paths end in it; its inclusive steps, which are the steps
-- of the nodes whose paths contain it, each node counted once; and how often runs entered it
pub record FunctionCounts : Type 0 where
  pub name : List ℕ
  -- the address of the function
  pub function : ℕ
  pub own : ℕ
  pub inclusive : ℕ
  -- the number of calls
  pub calls : ℕ

-- the counts that a call tree has for the function with this name and address
abbrev pub function_counts : List CallNode → FunctionName → FunctionCounts
function_counts nodes named = record {
  name = named.name;
  function = named.function;
  own = own_steps_of named.function nodes;
  inclusive = inclusive_steps_after named.function [] nodes;
  calls = calls_of_function named.function nodes;
}

-- whether `a` comes before `b` in a profile: it has more own steps, or equally many and a lower address
abbrev pub precedes : FunctionCounts → FunctionCounts → Bool
precedes a b = nat_lt b.own a.own || ((a.own == b.own) && nat_lt a.function b.function)

-- `profile` has the counts of each named function in the call tree, each function once, in the order that `precedes` defines
pub record IsProfileOf (nodes : List CallNode) (names : List FunctionName) (profile : List FunctionCounts) : Type 0 where
  pub each : IsPermutation (map (function_counts nodes) names) profile
  pub order : IsSortedBy precedes profile

-- the sum of the own steps of the functions
abbrev pub total_own_steps : List FunctionCounts → ℕ
total_own_steps profile = sum_by (λ p. p.own) profile

-- neither the own nor the inclusive steps of the function exceed `steps`, the steps of all nodes
abbrev pub IsWithin : ℕ → FunctionCounts → Type 0
IsWithin steps counts = (counts.own ≤ steps) × (counts.inclusive ≤ steps)

-- neither the own nor the inclusive steps of any of the functions exceed `steps`, the steps of all nodes
abbrev pub AreWithin : ℕ → List FunctionCounts → Type 0
AreWithin steps functions = All (IsWithin steps) functions

-- ---- conversion of the code's types

-- the counts of a function, converted from the type of the code to the record that contracts use
abbrev pub function_counts_of : FunctionProfile → FunctionCounts
function_counts_of function = record {
  name = function.name.now;
  function = function.function;
  own = function.steps.own;
  inclusive = function.steps.inclusive;
  calls = function.steps.calls;
}

-- the counts of functions, converted from the type of the code to the records that contracts use, in order
abbrev pub profiles_of : List FunctionProfile → List FunctionCounts
profiles_of functions = map function_counts_of functions
