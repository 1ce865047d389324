-- The law is the lemma.
use Rattle.rv_stacks.proofs.Apart.{counts_alone}
use Rattle.rv_stacks.proofs.law.table_without_stacks_is_that_of_counts.Goals as goal

pub returns : goal.returns
returns c = counts_alone
