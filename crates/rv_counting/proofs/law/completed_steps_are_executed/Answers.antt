-- The law is the lemma.
use Rattle.rv_counting.proofs.Ends.{completed_begins}
use Rattle.rv_counting.proofs.law.completed_steps_are_executed.Goals as goal

pub returns : goal.returns
returns c = completed_begins
