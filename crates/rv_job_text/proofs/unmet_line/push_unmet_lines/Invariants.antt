use Rattle.std.proofs.Common.{◌≡◌, ◌++◌, take}
use Rattle.std.specs.List.{flat_map}
use Rattle.rv_expect.specs.Comparisons.{comparison_view}
use Rattle.rv_job_text.specs.UnmetLines.{unmet_line}
use Rattle.rv_job_text.proofs.unmet_line.push_unmet_lines.Given as goal

abbrev pub invariant-loop-one : goal.invariant-loop-one
invariant-loop-one l =
    l.bytes.items ≡ l.fn.bytes.items
    ++ flat_map (unmet_line l.address (comparison_view l.comparison)) (take l.one-index l.unmet)
