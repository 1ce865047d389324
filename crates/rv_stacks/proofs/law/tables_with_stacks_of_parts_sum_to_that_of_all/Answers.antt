-- The laws are the lemmas.
use Rattle.rv_stacks.proofs.Shards.{sum_of_parts, text_of_parts}
use Rattle.rv_stacks.proofs.law.tables_with_stacks_of_parts_sum_to_that_of_all.Goals as goal

pub returns-clause-table : goal.returns-clause-table
returns-clause-table c = sum_of_parts

pub returns-clause-text : goal.returns-clause-text
returns-clause-text c = text_of_parts
