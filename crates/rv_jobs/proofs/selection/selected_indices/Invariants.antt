use Rattle.std.proofs.Common.{◌≡◌}
use Rattle.rv_jobs.specs.Selection.{selected_indices}
use Rattle.rv_jobs.proofs.selection.selected_indices.Given as goal

abbrev pub invariant-loop-index : goal.invariant-loop-index
invariant-loop-index l = l.indices.items ≡ selected_indices l.fn.selection l.index
