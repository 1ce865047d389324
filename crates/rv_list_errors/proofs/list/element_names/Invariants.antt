use Rattle.std.proofs.Common.{◌≡◌, take}
use Rattle.toml.specs.View.{items_view}
use Rattle.rv_list_errors.specs.FaultHeads.{borrowed_names, element_names}
use Rattle.rv_list_errors.proofs.list.element_names.Given as goal

abbrev pub invariant-loop-job : goal.invariant-loop-job
invariant-loop-job l = borrowed_names l.names.items ≡ element_names (items_view (take l.job-index l.jobs))
