use Rattle.std.proofs.lemmas.Result.{err_from_is_err_and}
use Rattle.rv_choice.proofs.Stops.{stop_of_choice, stop_of_pattern, stop_of_unknown}
use Rattle.rv_choice.proofs.chooser.Chooser.requested_selection.Goals as goal

pub returns-in_err-check_exact_names-clause-stopped : goal.returns-in_err-check_exact_names-clause-stopped
returns-in_err-check_exact_names-clause-stopped g c =
    let is = err_from_is_err_and c.from_residual.result c.from_residual.ensures.1 in
    rw (is.1, is.2) (stop_of_unknown _ _ _ _ _ c.in_err-check_exact_names.ensures.stopped)

pub returns-in_err-pattern-clause-stopped : goal.returns-in_err-pattern-clause-stopped
returns-in_err-pattern-clause-stopped g c =
    let is = err_from_is_err_and c.from_residual-in_err-pattern.result c.from_residual-in_err-pattern.ensures.1 in
    rw (is.1, is.2) (stop_of_pattern _ _ _ _ _ c.in_err-pattern.ensures.stopped)

pub returns-clause-stopped : goal.returns-clause-stopped
returns-clause-stopped g c = stop_of_choice _ _ _ _ _ c.choose_by_pattern.ensures.stopped
