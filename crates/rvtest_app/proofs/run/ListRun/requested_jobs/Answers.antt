use Rattle.std.proofs.Common.{inl, inr, sym}
use Rattle.std.proofs.lemmas.Result.{err_from_is_err_and}
use Rattle.rvtest_app.proofs.StopLemmas.{IfErr-map}
use Rattle.rvtest_app.proofs.run.ListRun.requested_jobs.Goals as goal

pub returns-in_err-shard-clause-stopped : goal.returns-in_err-shard-clause-stopped
returns-in_err-shard-clause-stopped g c =
    let is = err_from_is_err_and c.from_residual-in_err-shard.result c.from_residual-in_err-shard.ensures.1 in
    let listed = rw c.as_slice.ensures.value at c.in_ok-jobs.ensures.jobs in
    rw (is.1, is.2)
    (inr (
      c.in_ok-text.text.items,
      (
        c.in_ok-text.ensures.read,
        inr (c.in_ok-jobs.jobs, (listed, inr (inl c.in_err-shard.ensures.stopped))),
      ),
    ))

pub returns-clause-stopped : goal.returns-clause-stopped
returns-clause-stopped g c =
    let listed = rw c.as_slice.ensures.value at c.in_ok-jobs.ensures.jobs in
    let none = rw c.in-None.is at c.in_ok-shard.ensures.requested in
    IfErr-map c.jobs_of_choice.result _ _
    (λ stop is. inr (
      c.in_ok-text.text.items,
      (
        c.in_ok-text.ensures.read,
        inr (c.in_ok-jobs.jobs, (listed, inr (inr (sym none.0, is)))),
      ),
    ))
    (rw c.requires at c.jobs_of_choice.ensures.stopped)
