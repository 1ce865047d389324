use Rattle.std.proofs.Common.{◌≡◌, ◌++◌, take}
use Rattle.std.specs.List.{flat_map}
use Rattle.rv_command.specs.Texts.{optional_text}
use Rattle.rvtest_app.specs.Overwrites.{image_paths, input_paths}
use Rattle.rvtest_app.proofs.accept_inputs.inputs_of_accept.Given as goal

abbrev pub invariant-loop-job : goal.invariant-loop-job
invariant-loop-job l = input_paths l.inputs.items
    ≡ input_paths l.initial.inputs.items ++ flat_map (image_paths (optional_text l.args.run.root)) (take l.job-index l.jobs)
