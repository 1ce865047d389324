use Rattle.std.proofs.Common.{inl}
use Rattle.rvtest_app.proofs.StopLemmas.{IfErr-map}
use Rattle.rvtest_app.proofs.console.run_job_of_text.Goals as goal

pub returns-clause-stopped : goal.returns-clause-stopped
returns-clause-stopped g c =
    IfErr-map c.run_job_at.result _ _ (λ stop is. inl (inl is)) c.run_job_at.ensures.memory
