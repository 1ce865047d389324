use Rattle.rvtest_app.proofs.WriteStops.{unplaced}
use Rattle.rvtest_app.proofs.committing.commit_synced.Goals as goal

pub returns-in-Err-clause-stopped : goal.returns-in-Err-clause-stopped
returns-in-Err-clause-stopped g c =
    rw c.in-Some.is (unplaced _ c.in-Err.error _ c.in-Err.ensures.another_error c.file_error_stop.ensures)
