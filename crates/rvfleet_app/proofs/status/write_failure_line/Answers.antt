use Rattle.rvfleet_app.proofs.status.write_failure_line.Goals as goal

pub returns-clause-told : goal.returns-clause-told
returns-clause-told g c = rw c.failure_line.ensures at c.write_error_line.ensures
