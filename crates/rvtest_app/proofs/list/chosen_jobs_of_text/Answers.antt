use Rattle.std.proofs.Common.{◌∙◌, ap, inr, length, sym}
use Rattle.std.proofs.lemmas.Result.{err_from_is_err_and}
use Rattle.rv_choice.proofs.Public.{choice_count}
use Rattle.rvtest_app.proofs.list.chosen_jobs_of_text.Goals as goal

pub returns-in_err-selection-clause-stopped : goal.returns-in_err-selection-clause-stopped
returns-in_err-selection-clause-stopped g c =
    let is = err_from_is_err_and c.from_residual-in_err-selection.result c.from_residual-in_err-selection.ensures.1 in
    let stop = rw (c.failure_rule.ensures, c.as_slice.ensures.value) at c.in_err-selection.ensures.stopped in
    rw (is.1, is.2) (inr (c.in_ok-jobs.jobs, (c.in_ok-jobs.ensures.jobs, stop)))

pub selected_name_lines-requires : goal.selected_name_lines-requires
selected_name_lines-requires g c =
    let count = choice_count _ c.args.args.now _ c.as_slice.result.now c.in-Some.selection.items _
    (rw c.in-Some.is at c.in_ok-selection.ensures.chosen) in
    ap length c.as_slice-in-Some-2.ensures.value ∙ count
    ∙ ap length (c.as_slice.ensures.value ∙ sym c.as_slice-in-Some.ensures.value)
