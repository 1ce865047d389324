use Rattle.rv_base.proofs.sequence.Sequence.into_vec.Goals as goal

pub returns : goal.returns
returns g c = c.self.view_is
