-- The law is the lemma.
use Rattle.rv_counting.proofs.OfShards.{of_shards}
use Rattle.rv_counting.proofs.law.tables_of_shards_sum_to_that_of_all.Goals as goal

pub returns : goal.returns
returns c = of_shards
