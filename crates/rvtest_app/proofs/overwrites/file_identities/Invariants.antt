use Rattle.std.proofs.Common.{◌≡◌, IfSome, length, take}
use Rattle.rvtest_app.specs.Overwrites.{input_paths}
use Rattle.rvtest_app.proofs.overwrites.file_identities.Given as goal

abbrev pub invariant-loop-at : goal.invariant-loop-at
invariant-loop-at g l = record {
  counted : length l.identities.items ≡ l.at;
  told : IfSome (g.F.Outputs.committed l.files) (λ _. l.identities.items ≡ input_paths (take l.at l.paths));
}
