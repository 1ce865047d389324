use Rattle.rv_history.proofs.Reaching.{comes_within}
use Rattle.rv_history.proofs.history.History.current_step.Goals as goal

pub returns-clause-within : goal.returns-clause-within
returns-clause-within c = rw (← c.self.view_is)
    (comes_within c.self.inside.budget c.self.inside.step c.self.inside.checkpoints c.self.invariant.0.completed c.self.invariant.1)
