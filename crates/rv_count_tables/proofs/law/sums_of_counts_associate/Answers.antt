-- The law is the lemma.
use Rattle.rv_count_tables.proofs.Told.{associate}
use Rattle.rv_count_tables.proofs.law.sums_of_counts_associate.Goals as goal

pub returns : goal.returns
returns c = associate
