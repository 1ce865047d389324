use Rattle.std.proofs.Common.{◌∙◌, ◌++◌, [], ap, append_assoc, get_or, slice_index_or, sym, take}
use Rattle.std.proofs.lemmas.List.{get_or_default}
use Rattle.rv_expect.specs.Judgement.{judge_view}
use Rattle.rv_rows.specs.Jobs.{single_job}
use Rattle.rvtest_app.specs.RefusedNotes.{line_if_refused, refused_lines}
use Rattle.rvtest_app.proofs.ViewAnswers.{refused_more}
use Rattle.rvtest_app.proofs.refused_note.push_refused_lines.Goals as goal

pub loop-index-preserved : goal.loop-index-preserved
loop-index-preserved c =
    let reporter = c.args.reporter.now in
    let judging = judge_view reporter.judge in
    let indices = c.args.indices.now in
    let i = c.loop-index.index-index in
    let index = get_or indices i 0 in
    let line = line_if_refused judging reporter.plan.now reporter.unread.now (slice_index_or reporter.plan.now.jobs index (single_job [] 0 [])) in
    c.in_ok-push_refused_line.ensures (single_job [] 0 [])
    ∙ ap (λ text. text ++ line) c.loop-index.invariant
    ∙ append_assoc _ (refused_lines judging reporter.plan.now reporter.unread.now (take i indices)) line
    ∙ ap (λ lines. c.args.text.now.items ++ lines) (sym (refused_more judging reporter.plan.now reporter.unread.now indices i index
    c.loop-index-test.true (get_or_default indices i 0 index c.loop-index-test.true)))
