use Rattle.rvtest_app.proofs.WriteStops.{file_text_stop, stdout_stop}
use Rattle.rvtest_app.proofs.outlets.Outlet.put_junit.Goals as goal

pub returns-in-Stdout-clause-stopped : goal.returns-in-Stdout-clause-stopped
returns-in-Stdout-clause-stopped g c =
    rw c.in-Stdout.is (stdout_stop c.write_junit.result c.stdout_result.result c.stdout_result.ensures.stopped)

pub returns-in-File-clause-stopped : goal.returns-in-File-clause-stopped
returns-in-File-clause-stopped g c =
    rw c.in-File.is (file_text_stop _ c.write_junit-written.result c.file_result.result c.file_result.ensures.stopped)
