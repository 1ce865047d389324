use Rattle.std.proofs.Common.{◌≡◌, take}
use Rattle.std.specs.List.{flat_map}
use Rattle.rv_command.specs.Texts.{optional_text}
use Rattle.rvtest_app.specs.Overwrites.{golden_paths_of_job, input_paths}
use Rattle.rvtest_app.proofs.accept_inputs.golden_files_of_jobs.Given as goal

abbrev pub invariant-loop-job : goal.invariant-loop-job
invariant-loop-job l = input_paths l.golden.items ≡ flat_map (golden_paths_of_job (optional_text l.root)) (take l.job-index l.jobs)
