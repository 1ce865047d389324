-- The law is the lemma.
use Rattle.rv_counting.proofs.Kept.{kept_same}
use Rattle.rv_counting.proofs.law.jobs_have_one_table_over_the_same_files.Goals as goal

pub returns : goal.returns
returns c = kept_same
