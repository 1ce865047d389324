use Rattle.std.proofs.Common.{refl}
use Rattle.std.proofs.lemmas.Result.{err_from_is_err_and}
use Rattle.rv_base.proofs.Public.{beginning_of_longer, ended_under_way, failed_under_way, stopped_under_way}
use Rattle.rv_report.specs.Saved.{saved_text}
use Rattle.rv_report.proofs.saved_writer.write_saved_report.Goals as goal

pub returns-in_err-write_numbered_rows-clause-prefix : goal.returns-in_err-write_numbered_rows-clause-prefix
unfolding saved_text
returns-in_err-write_numbered_rows-clause-prefix g c =
    let error = err_from_is_err_and c.from_residual.result c.from_residual.ensures.1 in
    rw (error.1, ← c.as_slice-rows.ensures, ← c.as_slice.ensures)
    (beginning_of_longer _ _ _ _ _ c.in_err-write_numbered_rows.ensures.prefix refl)

pub returns-in_err-push_extent_line-clause-prefix : goal.returns-in_err-push_extent_line-clause-prefix
unfolding saved_text
returns-in_err-push_extent_line-clause-prefix g c =
    let error = err_from_is_err_and c.from_residual-in_err-push_extent_line.result
    c.from_residual-in_err-push_extent_line.ensures.1 in
    rw (error.1, ← c.as_slice-rows.ensures, ← c.as_slice.ensures)
    (stopped_under_way _ _ _ _ _ _ c.in_ok-write_numbered_rows.ensures.partly_written refl)

pub returns-in_err-flush_text-clause-prefix : goal.returns-in_err-flush_text-clause-prefix
unfolding saved_text
returns-in_err-flush_text-clause-prefix g c =
    let error = err_from_is_err_and c.from_residual-in_err-flush_text.result c.from_residual-in_err-flush_text.ensures.1 in
    rw (error.1, ← c.as_slice-rows.ensures, ← c.as_slice.ensures)
    (failed_under_way _ _ _ _ _ _ _ _ c.in_ok-write_numbered_rows.ensures.partly_written c.in_ok-push_extent_line.ensures
    c.in_err-flush_text.ensures.prefix refl)

pub returns-clause-appended : goal.returns-clause-appended
unfolding saved_text
returns-clause-appended g c =
    rw (← c.as_slice-rows.ensures, ← c.as_slice.ensures)
    (ended_under_way _ _ _ _ _ _ _ c.in_ok-write_numbered_rows.ensures.partly_written c.in_ok-push_extent_line.ensures
    c.in_ok-flush_text.ensures.appended)
