use Rattle.rv_trace.proofs.Runs.{one_step}
use Rattle.rv_trace.proofs.step.execute_step.Goals as goal

pub returns : goal.returns
returns c = one_step _ _ _ _ c.run.ensures
