-- The one image can stand in a table.
use Rattle.std.proofs.Common.{◌∙◌, ap}
use Rattle.rv_count_tables.specs.Printable.{printable_text}
use Rattle.rv_stacks.proofs.Tables.{run_table}
use Rattle.rv_stacks.proofs.table.table_of_run.Goals as goal

pub returns : goal.returns
returns c =
    run_table _ _ _ _ _ _ _ _ _ _ c.in_ok-images.ensures c.in_ok-digest.ensures.value
    (c.in_ok-path.ensures.value ∙ ap printable_text c.as_bytes.ensures.value) c.requires.counts
    c.as_slice.ensures c.in_ok-functions.ensures.names c.in_ok-functions.ensures.fits c.requires.tree c.requires.has_calls
    c.in_ok-digest.ensures.long c.in_ok-digest.ensures.bytes c.in_ok-path.ensures.text c.in_ok-path.ensures.line
