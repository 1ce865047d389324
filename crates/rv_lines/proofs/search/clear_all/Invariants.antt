use Rattle.std.proofs.Common.{◌≡◌, ◌++◌, map, take, drop}
use Rattle.rv_lines.specs.SearchInside.{clear}
use Rattle.rv_lines.proofs.search.clear_all.Given as goal

abbrev pub invariant-loop-k : goal.invariant-loop-k
invariant-loop-k l = l.found ≡ map clear (take l.k l.initial.found) ++ drop l.k l.initial.found
