use Rattle.std.proofs.Common.{◌≡◌, ◌++◌, take}
use Rattle.std.specs.List.{flat_map}
use Rattle.rv_command.specs.Texts.{optional_text}
use Rattle.rvtest_app.specs.Overwrites.{paths_of_job, input_paths}
use Rattle.rvtest_app.proofs.run_inputs.inputs_of_run.Given as goal

abbrev pub invariant-loop-job : goal.invariant-loop-job
invariant-loop-job l = input_paths l.inputs.items
    ≡ input_paths l.initial.inputs.items ++ flat_map (paths_of_job (optional_text l.args.root)) (take l.job-index l.jobs)
