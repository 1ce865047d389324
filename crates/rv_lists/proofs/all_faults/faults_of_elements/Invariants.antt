use Rattle.std.proofs.Common.{◌≡◌, ◌+◌, ◌≤◌, ◌++◌, drop, [], length}
use Rattle.toml.specs.View.{items_view}
use Rattle.rv_lists.specs.JobList.{names_of_jobs}
use Rattle.rv_lists.specs.ListFaults.{faults_of_elements}
use Rattle.rv_lists.proofs.all_faults.faults_of_elements.Given as goal

abbrev pub invariant-loop-at : goal.invariant-loop-at
invariant-loop-at l =
    (l.faults.items ++ faults_of_elements (l.at + 1) (names_of_jobs l.earlier) (items_view (drop l.at l.elements))
    ≡ faults_of_elements 1 [] (items_view l.elements)) × (length l.earlier ≤ l.at)
