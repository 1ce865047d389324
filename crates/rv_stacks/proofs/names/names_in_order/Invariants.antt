-- The names so far are those of the functions of the spots so far, and no later one is lower.
use Rattle.std.proofs.Common.{ℕ, ◌+◌, ◌<◌, ◌≤◌, get_or, length, take}
use Rattle.std.specs.List.{AllByRecursion}
use Rattle.rv_count_tables.specs.Sums.{FitsFields}
use Rattle.rv_stacks.specs.StackTables.{name_of_function, AreNamedUpTo, AreNamesBy}
use Rattle.rv_stacks.proofs.names.names_in_order.Given as goal

abbrev pub invariant-loop-node : goal.invariant-loop-node
invariant-loop-node l = record {
  named : AreNamesBy (name_of_function l.symbols.image.now l.symbols.bytes.now) (take l.node-index l.nodes) l.names.items;
  up_to : AreNamedUpTo (name_of_function l.symbols.image.now l.symbols.bytes.now) (take l.node-index l.nodes) l.first_unnamed l.names.items;
  rising : (k : ℕ) → l.node-index ≤ k → k < length l.nodes
      → l.first_unnamed ≤ (get_or l.nodes k (record { depth = 0; function = 0; calls = 0; steps = 0 })).function + 1;
  fits : AllByRecursion FitsFields (take l.node-index l.nodes);
}
