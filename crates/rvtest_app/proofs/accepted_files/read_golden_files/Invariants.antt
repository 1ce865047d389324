use Rattle.std.proofs.Common.{◌≡◌, length}
use Rattle.std.specs.Vec.Iter.{into_iter_items, into_iter_len}
use Rattle.rv_command.specs.Texts.{optional_text}
use Rattle.rvtest_app.proofs.AcceptedFiles.{AreLast, ContinuesIn}
use Rattle.rvtest_app.proofs.accepted_files.read_golden_files.Given as goal

abbrev pub invariant-loop-target : goal.invariant-loop-target
invariant-loop-target g l = record {
  goes : ContinuesIn (g.D.Inputs.contents l.inputs) (optional_text l.fn.root) l.fn.targets.items
      (into_iter_items l.target-iterator) l.files.items;
  last : AreLast (g.D.Inputs.contents l.inputs) (optional_text l.fn.root) l.fn.targets.items
      (into_iter_items l.target-iterator);
  counted : into_iter_len l.target-iterator ≡ length (into_iter_items l.target-iterator);
}
