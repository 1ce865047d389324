use Rattle.toml.specs.View.{view}
use Rattle.rv_lists.proofs.Steps.{too_many}
use Rattle.rv_lists.proofs.list.has_too_many_jobs.Goals as goal

pub returns-in-Some-as_array : goal.returns-in-Some-as_array
returns-in-Some-as_array c = rw c.in-Some.is
    (rw (c.len.ensures, c.in-Some-as_array.elements.now.ok.0)
    (too_many c.in-Some-as_array.elements.now.items (view c.in-Some.value.now) c.in-Some-as_array.ensures))
