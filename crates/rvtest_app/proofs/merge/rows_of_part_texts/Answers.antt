use Rattle.std.proofs.Common.{inr}
use Rattle.rvtest_app.proofs.merge.rows_of_part_texts.Goals as goal

pub returns-clause-stopped : goal.returns-clause-stopped
returns-clause-stopped c =
    let refused = rw (c.as_slice.ensures.value, c.in_ok-parts.ensures) at c.in-Err.ensures.error in
    inr (c.in-Err.error, refused, rw (c.as_slice-in-Err.ensures.value, c.in_ok-parts.ensures) at c.merge_error_stop.ensures)
