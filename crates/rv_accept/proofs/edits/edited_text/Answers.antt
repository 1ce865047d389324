use Rattle.std.proofs.Common.{rules}
use Rattle.rv_accept.proofs.Editing.{edit_more, edits_end}
use Rattle.rv_accept.proofs.edits.edited_text.Goals as goal

pub loop-edit-preserved : goal.loop-edit-preserved
loop-edit-preserved c = edit_more c.loop-edit.from c.loop-edit.edit-index _ _ c.loop-edit.edited.items
    c.extend_from_slice.new.self.items _ c.args.edits.now c.edit-item.result c.loop-edit-test.true c.edit-item.is c.loop-edit.invariant (search rules) (search rules)

pub returns : goal.returns
returns c = edits_end c.loop-edit.from c.loop-edit.edit-index _ _ c.loop-edit.edited.items _ c.args.edits.now c.loop-edit-test.false c.loop-edit.invariant (search rules)
