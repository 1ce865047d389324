use Rattle.std.proofs.Common.{◌≡◌, ◌++◌, take}
use Rattle.std.specs.List.{flat_map}
use Rattle.rv_job_text.specs.MetLines.{met_line}
use Rattle.rv_expect.specs.Comparisons.{comparison_view}
use Rattle.rv_job_text.proofs.met_line.push_each_met_line.Given as goal

abbrev pub invariant-loop-one : goal.invariant-loop-one
invariant-loop-one l =
    l.bytes.items ≡ l.fn.bytes.items
    ++ flat_map (met_line (comparison_view l.comparison) l.unmet) (take l.one-index l.expectations)
