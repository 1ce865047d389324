-- The law is the lemma.
use Rattle.rv_counting.proofs.Counted.{total_is}
use Rattle.rv_counting.proofs.law.counts_sum_to_the_steps.Goals as goal

pub returns : goal.returns
returns c = total_is
