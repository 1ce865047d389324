use Rattle.rvtest_app.proofs.WriteStops.{put_of_unplaced}
use Rattle.rvtest_app.proofs.PutTexts.{both_placed, first_placed}
use Rattle.rvtest_app.proofs.Results.{OnErr-map, OnOk-map}
use Rattle.rvtest_app.proofs.output_writes.put_files.Goals as goal

pub returns-in-Ok-clause-committed : goal.returns-in-Ok-clause-committed
returns-in-Ok-clause-committed g c = λ had report_path junit_path report junit.
    OnOk-map c.commit_outlets.result _ _
    (both_placed g.F.Outputs.pending_path g.F.File.Sink.accepted g.F.File.Sink.failure_count _ _ had junit_path report_path
    c.args.outlets.junit _ c.args.outlets.report _ _ _ junit report c.in-Ok.ensures.junit c.in-Ok.ensures.report)
    c.commit_outlets.ensures.committed

pub returns-in-Ok-clause-committed_after_error : goal.returns-in-Ok-clause-committed_after_error
returns-in-Ok-clause-committed_after_error g c = λ junit_path junit.
    OnErr-map c.commit_outlets.result _ _
    (first_placed g.F.Outputs.pending_path g.F.File.Sink.accepted g.F.File.Sink.failure_count _ _ junit_path c.args.outlets.junit _ _ junit
    c.in-Ok.ensures.junit)
    c.commit_outlets.ensures.committed_after_error

pub returns-in-Ok-clause-stopped : goal.returns-in-Ok-clause-stopped
returns-in-Ok-clause-stopped g c =
    rw (c.in-Ok.ensures.report_path, c.in-Ok.ensures.junit_path)
    at (put_of_unplaced _ _ c.commit_outlets.result c.commit_outlets.ensures.stopped)
