use Rattle.std.proofs.Common.{inr, sym}
use Rattle.std.proofs.lemmas.Result.{err_from_is_err_and}
use Rattle.rvtest_app.proofs.accepted_files.write_accepted_files.Goals as goal

pub returns-in_err-write_file-clause-stopped : goal.returns-in_err-write_file-clause-stopped
returns-in_err-write_file-clause-stopped g c =
    let is = err_from_is_err_and c.from_residual.result c.from_residual.ensures.1 in
    rw (is.1, is.2) (inr (
      c.loop-file.file-index,
      c.file-item.result,
      c.loop-file-test.true,
      sym c.file-item.is,
      rw c.as_str.ensures at c.in_err-write_file.ensures.stopped,
    ))
