-- The law is the lemma.
use Rattle.std.proofs.Common.{sym}
use Rattle.rv_counting.proofs.Ends.{ended_begins}
use Rattle.rv_counting.proofs.law.ending_says_whether_the_last_step_is_executed.Goals as goal

pub returns : goal.returns
returns c = λ s e h. sym (ended_begins s e h)
