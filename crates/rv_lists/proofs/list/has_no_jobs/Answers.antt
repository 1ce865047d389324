use Rattle.toml.specs.View.{view}
use Rattle.rv_lists.proofs.Steps.{no_jobs}
use Rattle.rv_lists.proofs.list.has_no_jobs.Goals as goal

pub returns-in-Some-as_array : goal.returns-in-Some-as_array
returns-in-Some-as_array c = rw c.in-Some.is
    (rw (c.is_empty.ensures, c.in-Some-as_array.elements.now.ok.0)
    (no_jobs c.in-Some-as_array.elements.now.items (view c.in-Some.value.now) c.in-Some-as_array.ensures))
