use Rattle.rvtest_app.proofs.outlets.open_file.Goals as goal

pub returns-in-Err-clause-stopped : goal.returns-in-Err-clause-stopped
returns-in-Err-clause-stopped g c = (c.in-Err.error, c.file_error_stop.ensures)
