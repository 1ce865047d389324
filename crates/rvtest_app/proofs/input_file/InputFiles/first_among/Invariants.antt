use Rattle.std.proofs.Common.{◌≡◌, false, take}
use Rattle.std.specs.List.{list_any}
use Rattle.rvtest_app.specs.Overwrites.{is_among}
use Rattle.rvtest_app.proofs.input_file.InputFiles.first_among.Given as goal

abbrev pub invariant-loop-index : goal.invariant-loop-index
invariant-loop-index l = list_any (is_among l.identities) (take l.index l.self.identities.items) ≡ false
