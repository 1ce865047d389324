-- The index has the names so far.
use Rattle.std.proofs.Common.{take}
use Rattle.rv_count_tables.specs.ParsedNodes.{IsIndexOf}
use Rattle.rv_count_tables.proofs.text.index_of_functions.Given as goal

abbrev pub invariant-loop-name : goal.invariant-loop-name
invariant-loop-name l = IsIndexOf (take l.name-index l.names) l.index
