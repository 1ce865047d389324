use Rattle.std.proofs.Common.{inl}
use Rattle.rvtest_app.proofs.StopLemmas.{IfErr-map}
use Rattle.rvtest_app.proofs.explain.explain_job_of_text.Goals as goal

pub returns-clause-stopped : goal.returns-clause-stopped
returns-clause-stopped g c =
    IfErr-map c.explain_job_at.result _ _ (λ stop is. inl (inl is)) c.explain_job_at.ensures.memory
