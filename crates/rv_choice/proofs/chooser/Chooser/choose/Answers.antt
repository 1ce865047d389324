use Rattle.std.proofs.lemmas.Result.{err_from_is_err_and}
use Rattle.rv_choice.proofs.Counted.{wanted_counts}
use Rattle.rv_choice.proofs.Stops.{stop_of_emptied, stop_of_no_exclusion}
use Rattle.rv_choice.proofs.chooser.Chooser.choose.Goals as goal

pub returns-in_err-excluded-clause-stopped : goal.returns-in_err-excluded-clause-stopped
returns-in_err-excluded-clause-stopped g c =
    let is = err_from_is_err_and c.from_residual.result c.from_residual.ensures.1 in
    rw (is.1, is.2) (stop_of_no_exclusion _ _ _ _ _ c.in_err-excluded.ensures.stopped)

pub without_excluded-requires : goal.without_excluded-requires
without_excluded-requires g c = record {
  same_length = wanted_counts _ _ _ _ c.in_ok-selection.field-0.selection _ c.in_ok-selection.ensures.requested;
}

pub returns-in_err-selection-2-clause-stopped : goal.returns-in_err-selection-2-clause-stopped
returns-in_err-selection-2-clause-stopped g c =
    let is = err_from_is_err_and c.from_residual-in_err-selection-2.result c.from_residual-in_err-selection-2.ensures.1 in
    rw (is.1, is.2)
    (stop_of_emptied _ _ _ _ _ _ c.in_ok-selection.field-0.selection c.in_ok-excluded.excluded c.as_ref.result
    c.in_ok-selection.ensures.requested c.in_ok-excluded.ensures.source c.in_ok-excluded.ensures.default_options c.as_ref.ensures.value
    c.in_err-selection-2.ensures.stopped)
