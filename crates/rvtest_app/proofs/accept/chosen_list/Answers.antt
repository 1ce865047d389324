use Rattle.std.proofs.Common.{◌∙◌, ap, inr, length}
use Rattle.std.proofs.lemmas.Result.{err_from_is_err_and}
use Rattle.rv_choice.proofs.Public.{choice_count}
use Rattle.rvtest_app.proofs.accept.chosen_list.Goals as goal

pub returns-in_err-selection-clause-stopped : goal.returns-in_err-selection-clause-stopped
returns-in_err-selection-clause-stopped g c =
    let is = err_from_is_err_and c.from_residual-in_err-selection.result c.from_residual-in_err-selection.ensures.1 in
    let listed = rw c.as_slice.ensures.value at c.in_ok-jobs.ensures.jobs in
    let stop = rw (c.failure_rule.ensures, c.as_slice-2.ensures.value) at c.in_err-selection.ensures.stopped in
    rw (is.1, is.2)
    (inr (c.in_ok-text.text.items, (c.in_ok-text.ensures.read, inr (c.in_ok-jobs.jobs, (listed, stop)))))

pub invariant_of-result : goal.invariant_of-result
invariant_of-result g c = record {
  same_length = λ selection is. choice_count _ c.args.args.now.run _ c.as_slice-2.result.now selection.items _
      (rw is at c.in_ok-selection.ensures.chosen) ∙ ap length c.as_slice-2.ensures.value;
}
