use Rattle.rv_history.proofs.SingleSteps.{ended, went}
use Rattle.rv_history.proofs.stepping.execute_step.Goals as goal

pub returns-then-ran-eq1 : goal.returns-then-ran-eq1
returns-then-ran-eq1 c = went _ _ _ _ c.run-ran.ensures c.if-ran-eq1.true

pub returns-else-ran-eq1 : goal.returns-else-ran-eq1
returns-else-ran-eq1 c = ended _ _ _ _ c.run-ran.ensures c.if-ran-eq1.false
