use Rattle.std.proofs.Common.{sym, subst}
use Rattle.rv_count_tables.specs.Table.{IsValidTable}
use Rattle.rv_counting.proofs.OfJobs.{no_counts_is_table}
use Rattle.rv_counting.proofs.table_sum.TableSum.new.Goals as goal

pub invariant_of-result : goal.invariant_of-result
invariant_of-result c = subst IsValidTable (sym c.empty_table.ensures) no_counts_is_table
