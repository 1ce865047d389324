use Rattle.rvtest_app.proofs.StopLemmas.{IfErr-map, diff_stop_at}
use Rattle.rvtest_app.proofs.diff.diff_of_files.Goals as goal

pub returns-clause-stopped : goal.returns-clause-stopped
returns-clause-stopped g c =
    IfErr-map c.diff_report_texts.result _ _
    (λ stop is. diff_stop_at (g.D.Inputs.contents c.args.inputs.now) c.args.args c.in_ok-old.old.items
    c.read_result_file-new.result stop c.in_ok-old.ensures.read c.read_result_file-new.ensures.read c.read_result_file-new.ensures.stopped is)
    (rw c.as_slice.ensures.value at c.diff_report_texts.ensures.stopped)
