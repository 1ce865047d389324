use Rattle.std.proofs.Common.{◌≡◌, IfSome, false, take}
use Rattle.std.specs.List.{list_any}
use Rattle.rvtest_app.specs.Overwrites.{is_golden_input}
use Rattle.rvtest_app.proofs.accept_inputs.reject_golden_overwrites.Given as goal

abbrev pub invariant-loop-index : goal.invariant-loop-index
invariant-loop-index g l = record {
  no_list : IfSome (g.F.Outputs.committed l.files)
      (λ _. list_any (is_golden_input l.reads.list.identities.items) (take l.index l.golden) ≡ false);
  no_input : IfSome (g.F.Outputs.committed l.files)
      (λ _. list_any (is_golden_input l.reads.inputs.identities.items) (take l.index l.golden) ≡ false);
}
