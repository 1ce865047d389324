-- The law is the lemma.
use Rattle.rv_count_tables.proofs.Told.{commute}
use Rattle.rv_count_tables.proofs.law.sums_of_counts_commute.Goals as goal

pub returns : goal.returns
returns c = commute
