-- The law is the lemma.
use Rattle.rv_stacks.proofs.WithStacks.{one_table}
use Rattle.rv_stacks.proofs.law.jobs_have_one_table_with_stacks.Goals as goal

pub returns : goal.returns
returns c = one_table
