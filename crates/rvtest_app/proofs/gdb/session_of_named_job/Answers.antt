use Rattle.std.proofs.Common.{inr}
use Rattle.rvtest_app.proofs.StopLemmas.{IfErr-map}
use Rattle.rvtest_app.proofs.gdb.session_of_named_job.Goals as goal

pub returns-clause-stopped : goal.returns-clause-stopped
returns-clause-stopped g c =
    IfErr-map c.session_of_text.result _ _
    (λ stop is. inr (c.in_ok-text.text.items, (c.in_ok-text.ensures.read, is)))
    (rw c.as_slice.ensures.value at c.session_of_text.ensures.stopped)
