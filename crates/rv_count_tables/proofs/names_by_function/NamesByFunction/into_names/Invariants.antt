-- The names so far, and those that are left, are all.
use Rattle.std.proofs.Common.{◌≡◌, ◌++◌}
use Rattle.rv_count_tables.specs.NamesByFunctionInside.{names_of_entries}
use Rattle.rv_count_tables.proofs.names_by_function.NamesByFunction.into_names.Given as goal

abbrev pub invariant-loop-function : goal.invariant-loop-function
invariant-loop-function l = l.names.items ++ names_of_entries l.function-iterator ≡ l.fn.self
