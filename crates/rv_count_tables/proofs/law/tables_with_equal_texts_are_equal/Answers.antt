-- The law is the lemma.
use Rattle.rv_count_tables.proofs.Reading.{one_table}
use Rattle.rv_count_tables.proofs.law.tables_with_equal_texts_are_equal.Goals as goal

pub returns : goal.returns
returns c = one_table
