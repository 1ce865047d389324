use Rattle.std.proofs.Common.{◌≡◌, ◌++◌, take}
use Rattle.rv_expect.specs.Judgement.{judge_view}
use Rattle.rvtest_app.specs.RefusedNotes.{refused_lines}
use Rattle.rvtest_app.proofs.refused_note.push_refused_lines.Given as goal

abbrev pub invariant-loop-index : goal.invariant-loop-index
invariant-loop-index l = l.text.items ≡ l.fn.text.items
    ++ refused_lines (judge_view l.reporter.judge) l.reporter.plan.now l.reporter.unread.now (take l.index-index l.indices)
