use Rattle.rv_rows.proofs.Loadables.{loadable_parts, range_after_run, range_there}
use Rattle.rv_rows.proofs.job_run.run_image.Goals as goal

pub loaded_machine-requires-clause-image : goal.loaded_machine-requires-clause-image
loaded_machine-requires-clause-image c = (loadable_parts _ _ _ c.in-Ok.ensures).image

pub loaded_machine-requires-clause-fits : goal.loaded_machine-requires-clause-fits
loaded_machine-requires-clause-fits c = (loadable_parts _ _ _ c.in-Ok.ensures).fits

pub ended_run-requires : goal.ended_run-requires
ended_run-requires c =
    range_after_run c.in-Ok.loadable.range _ _ _ c.run-run_outcome.ensures
    (range_there _ _ c.in-Ok.loadable _ c.in-Ok.ensures c.in_ok-machine-in-Ok.ensures)
