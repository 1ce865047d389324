use Rattle.rv_calls.proofs.Runs.{one_step}
use Rattle.rv_calls.proofs.transfer.execute_step.Goals as goal

pub returns : goal.returns
returns c = one_step _ _ _ _ c.run.ensures
