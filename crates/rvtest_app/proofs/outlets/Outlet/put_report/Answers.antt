use Rattle.rvtest_app.proofs.WriteStops.{file_text_stop, stdout_stop}
use Rattle.rvtest_app.proofs.PutTexts.{appends_nothing, begins_nothing}
use Rattle.rvtest_app.proofs.Results.{OnOk-from, OnErr-from}
use Rattle.rvtest_app.proofs.outlets.Outlet.put_report.Goals as goal

pub returns-in-File-clause-out_written : goal.returns-in-File-clause-out_written
returns-in-File-clause-out_written g c =
    OnOk-from c.file_result.result _ (rw c.in-File.is (appends_nothing (g.O.Sink.accepted c.args.out.now)))

pub returns-in-File-clause-prefix_written : goal.returns-in-File-clause-prefix_written
returns-in-File-clause-prefix_written g c =
    OnErr-from c.file_result.result _ (rw c.in-File.is (begins_nothing (g.O.Sink.accepted c.args.out.now)))

pub returns-in-Stdout-clause-stopped : goal.returns-in-Stdout-clause-stopped
returns-in-Stdout-clause-stopped g c = rw c.in-Stdout.is (stdout_stop c.write.result c.stdout_result.result c.stdout_result.ensures.stopped)

pub returns-in-File-clause-stopped : goal.returns-in-File-clause-stopped
returns-in-File-clause-stopped g c =
    rw c.in-File.is (file_text_stop _ c.write_rest-written.result c.file_result.result c.file_result.ensures.stopped)
