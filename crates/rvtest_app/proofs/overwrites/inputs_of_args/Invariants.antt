use Rattle.std.proofs.Common.{◌≡◌, map, take}
use Rattle.rvtest_app.specs.Overwrites.{input_paths}
use Rattle.rvtest_app.proofs.overwrites.inputs_of_args.Given as goal

abbrev pub invariant-loop-path : goal.invariant-loop-path
invariant-loop-path l = input_paths l.inputs.items ≡ map (λ path. path.now) (take l.path-index l.paths)
