-- The laws are the lemmas.
use Rattle.rv_stacks.proofs.Shards.{sum_of_shards, text_of_shards}
use Rattle.rv_stacks.proofs.law.tables_with_stacks_of_shards_sum_to_that_of_all.Goals as goal

pub returns-clause-table : goal.returns-clause-table
returns-clause-table c = sum_of_shards

pub returns-clause-text : goal.returns-clause-text
returns-clause-text c = text_of_shards
