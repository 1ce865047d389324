use Rattle.std.proofs.Common.{◌≡◌, ◌+◌, drop, [], length}
use Rattle.toml.specs.View.{items_view}
use Rattle.rv_lists.specs.Parsing.{with_prefix}
use Rattle.rv_lists.specs.JobList.{jobs_of_elements, names_of_jobs}
use Rattle.rv_lists.proofs.list.jobs_of_elements.Given as goal

abbrev pub invariant-loop-at : goal.invariant-loop-at
invariant-loop-at l =
    (with_prefix l.jobs (jobs_of_elements (l.at + 1) (names_of_jobs l.jobs) (items_view (drop l.at l.elements)))
    ≡ jobs_of_elements 1 [] (items_view l.elements)) × (length l.jobs ≡ l.at)
