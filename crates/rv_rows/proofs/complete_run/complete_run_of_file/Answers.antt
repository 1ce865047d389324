use Rattle.rv_machine.specs.Machine.{state_of}
use Rattle.rv_rows.proofs.RestsOfRuns.{range_on_way}
use Rattle.rv_rows.proofs.complete_run.complete_run_of_file.Goals as goal

pub complete_run-run-requires-clause-range : goal.complete_run-run-requires-clause-range
complete_run-run-requires-clause-range c =
    range_on_way c.args.job.now c.args.file.now c.in-Ok.loadable c.args.steps (state_of c.args.machine) c.in-Ok.ensures
    c.requires.intermediate
