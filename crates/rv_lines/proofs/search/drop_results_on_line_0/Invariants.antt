use Rattle.std.proofs.Common.{◌≡◌, ◌++◌, map, take, drop}
use Rattle.rv_lines.specs.SearchInside.{drop_line_0}
use Rattle.rv_lines.proofs.search.drop_results_on_line_0.Given as goal

abbrev pub invariant-loop-k : goal.invariant-loop-k
invariant-loop-k l = l.found ≡ map drop_line_0 (take l.k l.initial.found) ++ drop l.k l.initial.found
