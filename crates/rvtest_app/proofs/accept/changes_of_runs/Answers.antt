use Rattle.std.proofs.lemmas.Result.{err_from_is_err_and}
use Rattle.rvtest_app.proofs.AcceptStops.{targets_unread}
use Rattle.rvtest_app.proofs.accept.changes_of_runs.Goals as goal

pub returns-in_err-files-clause-stopped : goal.returns-in_err-files-clause-stopped
returns-in_err-files-clause-stopped g c =
    let is = err_from_is_err_and c.from_residual-in_err-files.result c.from_residual-in_err-files.ensures.1 in
    rw (is.1, is.2)
    (targets_unread (g.D.Inputs.contents c.args.host.now.inputs.now) c.args.args.now c.args.list.now.jobs.now
    c.in_ok-new.new.runs.items c.in_ok-golden_texts.golden_texts.items c.in_ok-targets.targets.items _
    (rw (c.as_slice-2.ensures.value, c.as_slice-3.ensures.value) at c.in_ok-targets.ensures)
    (rw c.as_slice.ensures.value at c.in_ok-golden_texts.ensures) c.in_err-files.ensures.stopped)
