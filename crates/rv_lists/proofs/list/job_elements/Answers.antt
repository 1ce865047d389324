use Rattle.std.proofs.Common.{◌≡◌, sym, Some, false}
use Rattle.toml.specs.View.{view}
use Rattle.rv_lists.specs.JobList.{has_too_many_jobs}
use Rattle.rv_lists.proofs.Steps.{few_items}
use Rattle.rv_lists.proofs.list.job_elements.Goals as goal

pub returns-in-Some-as_array-clause-at_most_max : goal.returns-in-Some-as_array-clause-at_most_max
returns-in-Some-as_array-clause-at_most_max c =
    let below : has_too_many_jobs (Some (view c.in-Some.value.now))
    ≡ false = sym (rw c.in-Some.is at c.if-has_too_many_jobs.ensures) in
    rw c.in-Some-as_array.elements.now.ok.0
    (few_items c.in-Some-as_array.elements.now.items (view c.in-Some.value.now) c.in-Some-as_array.ensures below)
