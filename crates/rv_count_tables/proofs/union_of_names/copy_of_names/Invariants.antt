-- The copies so far are of the first names.
use Rattle.std.proofs.Common.{◌≡◌, take}
use Rattle.rv_count_tables.proofs.union_of_names.copy_of_names.Given as goal

abbrev pub invariant-loop-name : goal.invariant-loop-name
invariant-loop-name l = l.copies.items ≡ take l.name-index l.names
