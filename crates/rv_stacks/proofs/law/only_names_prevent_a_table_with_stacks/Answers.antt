-- The law is the lemma.
use Rattle.rv_stacks.proofs.NoSums.{no_other_reason}
use Rattle.rv_stacks.proofs.law.only_names_prevent_a_table_with_stacks.Goals as goal

pub returns : goal.returns
returns c = no_other_reason
