-- The law is the lemma.
use Rattle.rv_count_tables.proofs.Told.{one_of}
use Rattle.rv_count_tables.proofs.law.lists_with_equal_counts_are_equal.Goals as goal

pub returns : goal.returns
returns c = one_of
