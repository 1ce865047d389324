use Rattle.std.proofs.Common.{◌≡◌, ◌++◌, drop}
use Rattle.rv_accept.specs.Edits.{edited_rest}
use Rattle.rv_accept.proofs.edits.edited_text.Given as goal

abbrev pub invariant-loop-edit : goal.invariant-loop-edit
invariant-loop-edit l = l.edited.items ++ edited_rest l.from l.text (drop l.edit-index l.edits) ≡ edited_rest 0 l.text l.edits
