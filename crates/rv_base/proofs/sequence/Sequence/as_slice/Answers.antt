use Rattle.rv_base.proofs.sequence.Sequence.as_slice.Goals as goal

pub returns : goal.returns
returns g c = rw (← c.self.view_is) c.deref.ensures.value
