use Rattle.std.proofs.Common.{inl, inr, ⊎_elim}
use Rattle.std.proofs.lemmas.Result.{err_from_is_err_and}
use Rattle.rvtest_app.proofs.Results.{OnErr-from}
use Rattle.rvtest_app.proofs.show.show_report.Goals as goal

pub returns-in_err-partial_report-clause-stopped : goal.returns-in_err-partial_report-clause-stopped
returns-in_err-partial_report-clause-stopped g c =
    let error = err_from_is_err_and c.from_residual-in_err-partial_report.result c.from_residual-in_err-partial_report.ensures.1 in
    rw (error.1, error.2) (inr (inl c.in_err-partial_report.ensures.stopped))

pub returns-in_err-write_summarized_report-clause-committed_after_error : goal.returns-in_err-write_summarized_report-clause-committed_after_error
returns-in_err-write_summarized_report-clause-committed_after_error g c =
    OnErr-from c.from_residual-in_err-write_summarized_report.result _
    (⊎_elim inl (λ committed. inr (record {
      partial_report = c.in_ok-partial_report.partial_report;
      read = c.in_ok-partial_report.ensures.read;
      committed = committed;
    }))
    (rw c.in_ok-summarized.ensures.report at c.in_err-write_summarized_report.ensures.committed_after_error))
