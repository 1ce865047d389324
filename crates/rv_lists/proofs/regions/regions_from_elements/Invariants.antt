use Rattle.std.proofs.Common.{◌≡◌, drop}
use Rattle.toml.specs.View.{items_view}
use Rattle.rv_lists.specs.Parsing.{with_prefix}
use Rattle.rv_lists.specs.JobList.{regions_from_elements}
use Rattle.rv_lists.proofs.regions.regions_from_elements.Given as goal

abbrev pub invariant-loop-element : goal.invariant-loop-element
invariant-loop-element l = with_prefix l.regions.items (regions_from_elements (items_view (drop l.element-index l.elements)))
    ≡ regions_from_elements (items_view l.elements)
