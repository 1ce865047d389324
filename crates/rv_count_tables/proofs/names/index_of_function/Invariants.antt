-- The names so far are of lower functions.
use Rattle.std.proofs.Common.{◌≡◌, ◌+◌, ◌-◌, ◌≤◌, length, drop, nat_lt}
use Rattle.std.specs.List.{prefix_len}
use Rattle.rv_count_tables.specs.declared.table.FunctionName.{FunctionName}
use Rattle.rv_count_tables.proofs.names.index_of_function.Given as goal

abbrev pub invariant-loop-count : goal.invariant-loop-count
invariant-loop-count l = record {
  within : l.count ≤ length l.names;
  so_far : l.count + prefix_len (λ (m : FunctionName). nat_lt m.function l.function) (drop l.count l.names)
      ≡ prefix_len (λ (m : FunctionName). nat_lt m.function l.function) l.names;
}

abbrev pub decreases-loop-count : goal.decreases-loop-count
decreases-loop-count l = length l.names - l.count
