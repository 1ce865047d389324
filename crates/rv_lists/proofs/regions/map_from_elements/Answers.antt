use Rattle.std.proofs.Common.{rules}
use Rattle.rv_lists.specs.JobList.{map_from_elements}
use Rattle.rv_lists.proofs.regions.map_from_elements.Goals as goal

pub returns-in-Ok : goal.returns-in-Ok
unfolding map_from_elements
returns-in-Ok c = search rules
