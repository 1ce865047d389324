-- The laws are the lemmas.
use Rattle.rv_count_tables.proofs.ToldImages.{tables_commute, tables_associate}
use Rattle.rv_count_tables.proofs.law.sums_of_tables_commute_and_associate.Goals as goal

pub returns-clause-commute : goal.returns-clause-commute
returns-clause-commute c = tables_commute

pub returns-clause-associate : goal.returns-clause-associate
returns-clause-associate c = tables_associate
