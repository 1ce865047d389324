-- The images add up, and so their tables do.
use Rattle.std.proofs.Common.{rules}
use Rattle.rv_count_tables.proofs.AddingImages.{tables_add_up}
use Rattle.rv_count_tables.proofs.sum.add_table.Goals as goal

pub returns-clause-value : goal.returns-clause-value
returns-clause-value c =
    tables_add_up c.args.sum c.args.table _ c.requires.sum c.requires.table c.in_ok-images.ensures.value (search rules) (search rules) (search rules)
