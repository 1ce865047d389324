use Rattle.std.proofs.Common.{inl, inr, map, ⊎_elim}
use Rattle.std.proofs.lemmas.Result.{err_from_is_err_and}
use Rattle.rvtest_app.proofs.Results.{OnErr-from}
use Rattle.rvtest_app.proofs.merge.merge_reports.Goals as goal

pub returns-in_err-write_merged-clause-stopped : goal.returns-in_err-write_merged-clause-stopped
returns-in_err-write_merged-clause-stopped g c =
    let error = err_from_is_err_and c.from_residual-in_err-write_merged.result c.from_residual-in_err-write_merged.ensures.1 in
    let parts = rw c.as_slice.ensures.value at c.in_ok-merged.ensures.parts in
    rw (error.1, error.2)
    (inr (inr (
      map (λ text. text.items) c.in_ok-texts.texts.items,
      (
        c.in_ok-texts.ensures.read,
        inr
            (c.in_ok-merged.merged.rows, (parts, c.in_err-write_merged.ensures.stopped)),
      ),
    )))

pub returns-in_err-write_merged-clause-committed_after_error : goal.returns-in_err-write_merged-clause-committed_after_error
returns-in_err-write_merged-clause-committed_after_error g c =
    let parts = rw c.as_slice.ensures.value at c.in_ok-merged.ensures.parts in
    OnErr-from c.from_residual-in_err-write_merged.result _
    (⊎_elim inl (λ committed. inr (record {
      texts = map (λ text. text.items) c.in_ok-texts.texts.items;
      read = c.in_ok-texts.ensures.read;
      rows = c.in_ok-merged.merged.rows;
      parts = parts;
      committed = committed;
    }))
    c.in_err-write_merged.ensures.committed_after_error)
