use Rattle.std.proofs.Common.{Some, take}
use Rattle.std.specs.List.{flat_map}
use Rattle.rv_accept_text.specs.GoldenFiles.{new_text}
use Rattle.rvtest_app.specs.Accepts.{file_if_text}
use Rattle.rvtest_app.specs.Outlets.{AreFilesCommitted}
use Rattle.rvtest_app.proofs.accepted_files.write_accepted_files.Given as goal

abbrev pub invariant-loop-file : goal.invariant-loop-file
invariant-loop-file g l = AreFilesCommitted (g.F.Outputs.committed l.fn.files) (g.F.Outputs.committed l.files)
    (Some (flat_map (λ file. file_if_text file.resolved_path (new_text l.summary.list file)) (take l.file-index l.summary.files.now)))
