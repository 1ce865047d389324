use Rattle.std.proofs.Common.{inl}
use Rattle.rvtest_app.proofs.WriteStops.{run_of_show}
use Rattle.rvtest_app.proofs.run.ListRun.finish_run.Goals as goal

pub write_all_files-status-requires-clause-rows : goal.write_all_files-status-requires-clause-rows
write_all_files-status-requires-clause-rows g c κs within = rw c.in-Ok.is at c.requires.rows

pub write_all_files-status-requires-clause-row_count : goal.write_all_files-status-requires-clause-row_count
write_all_files-status-requires-clause-row_count g c κs within = rw c.in-Ok.is at c.requires.row_count

pub write_all_files-status-requires-clause-texts : goal.write_all_files-status-requires-clause-texts
write_all_files-status-requires-clause-texts g c κs within = rw c.in-Ok.is at c.requires.texts

pub write_all_files-status-requires-clause-table : goal.write_all_files-status-requires-clause-table
write_all_files-status-requires-clause-table g c κs within = rw c.in-Ok.is at c.requires.table

pub write_all_files-status-requires-clause-received : goal.write_all_files-status-requires-clause-received
write_all_files-status-requires-clause-received g c κs within = rw c.in-Ok.is at c.requires.received

pub returns-in-Ok-clause-status : goal.returns-in-Ok-clause-status
returns-in-Ok-clause-status g c = rw (rw c.in-Ok.is at c.requires.rows) at c.write_all_files-status.ensures.status

pub returns-in-Ok-clause-written : goal.returns-in-Ok-clause-written
returns-in-Ok-clause-written g c = λ before shown.
    let rows = rw c.in-Ok.is at c.requires.rows in
    rw rows at (c.write_all_files-status.ensures.written before (rw rows (rw c.in-Ok.is at shown)))

pub returns-in-Ok-clause-committed_after_error : goal.returns-in-Ok-clause-committed_after_error
returns-in-Ok-clause-committed_after_error g c = rw (rw c.in-Ok.is at c.requires.rows) at c.write_all_files-status.ensures.committed_after_error

pub returns-in-Err-clause-committed_after_error : goal.returns-in-Err-clause-committed_after_error
returns-in-Err-clause-committed_after_error g c = inl c.abandon.ensures

pub returns-in-Err-clause-stopped : goal.returns-in-Err-clause-stopped
returns-in-Err-clause-stopped g c = run_of_show c.args.self.now.args.now _ c.in-Err.error _ c.requires.path c.show_stop-stop.ensures
