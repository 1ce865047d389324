-- The tables are one, so their texts are.
use Rattle.std.proofs.Common.{ap}
use Rattle.rv_count_tables.specs.Text.{table_text}
use Rattle.rv_counting.proofs.Orders.{same_as_whole}
use Rattle.rv_counting.proofs.law.tables_of_parts_sum_to_that_of_the_list.Goals as goal

pub returns : goal.returns
returns c = λ answers jobs parts ts sum whole p each sums h.
    ap table_text (same_as_whole answers jobs parts ts sum whole p each sums h)
