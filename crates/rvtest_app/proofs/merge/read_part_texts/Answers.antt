use Rattle.std.proofs.Common.{map}
use Rattle.std.proofs.lemmas.Result.{err_from_is_err_and}
use Rattle.rvtest_app.proofs.PartTexts.{one_more_text, unread_part}
use Rattle.rvtest_app.proofs.merge.read_part_texts.Goals as goal

pub loop-path-preserved : goal.loop-path-preserved
loop-path-preserved g c =
    one_more_text (g.D.Inputs.contents c.args.inputs.now) c.args.args.now.parts.items c.loop-path.path-index _
    c.loop-path.texts.items c.push_part_text.new.texts.items c.in_ok-text.text
    (rw c.deref-path-items.ensures.value at c.loop-path-test.true) c.loop-path.invariant
    (rw c.deref-path-items.ensures.value at c.in_ok-text.ensures.read) c.in_ok-push_part_text.ensures

pub returns-in_err-text-clause-stopped : goal.returns-in_err-text-clause-stopped
returns-in_err-text-clause-stopped g c =
    let error = err_from_is_err_and c.from_residual.result c.from_residual.ensures.1 in
    rw (error.1, error.2)
    (unread_part (g.D.Inputs.contents c.args.inputs.now) c.args.args.now.parts.items c.loop-path.path-index _
    (map (λ text. text.items) c.loop-path.texts.items) _
    (rw c.deref-path-items.ensures.value at c.loop-path-test.true) c.loop-path.invariant
    (rw c.deref-path-items.ensures.value at c.in_err-text.ensures.stopped))
