use Rattle.rvtest_app.proofs.Results.{IfOk-map}
use Rattle.rvtest_app.proofs.accept.judge_rows.Goals as goal

pub returns : goal.returns
returns g c = IfOk-map c.judged_runs.result _ _
    (λ runs are. record {
      candidates = c.in_ok-candidates.candidates.items;
      are_candidates = rw c.as_slice.ensures.value at c.in_ok-candidates.ensures;
      are_runs = rw (c.acceptance_of-acceptance.ensures, c.as_slice-2.ensures.value) at are;
    })
    c.judged_runs.ensures
