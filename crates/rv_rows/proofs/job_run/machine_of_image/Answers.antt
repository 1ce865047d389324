use Rattle.rv_rows.proofs.Loadables.{loadable_parts}
use Rattle.rv_rows.proofs.job_run.machine_of_image.Goals as goal

pub loaded_machine-requires-clause-fits : goal.loaded_machine-requires-clause-fits
loaded_machine-requires-clause-fits c = (loadable_parts _ _ _ c.in-Ok.ensures).fits
