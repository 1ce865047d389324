use Rattle.std.proofs.Common.{◌∙◌, ◌++◌, List, ap}
use Rattle.std.specs.Prelude.{option_to_list}
use Rattle.rv_rows.specs.declared_row.Row.{Row}
use Rattle.rv_expect.specs.FailureKinds.{failure_by_end}
use Rattle.rv_expect.specs.declared.failure_kind.FailureKind.{FailureKind}
use Rattle.rv_expect.specs.Judgement.{judge_view}
use Rattle.rv_expect.proofs.Collecting.{all_of, one_more}
use Rattle.rv_expect.proofs.failures.failures_by_end.Goals as goal

pub loop-row-preserved : goal.loop-row-preserved
loop-row-preserved c =
    let f : Row → List FailureKind = λ row. option_to_list (failure_by_end (judge_view c.args.judge.now) row) in
    let mid = c.loop-row.failures.items in
    one_more f c.args.rows.now c.loop-row.row-index c.row-item.result mid _ c.loop-row-test.true c.loop-row.invariant
    (c.in_ok-push_if_failed.ensures ∙ ap (λ o. mid ++ option_to_list o) c.failure_by_end.ensures
    ∙ ap (λ row. mid ++ f row) c.row-item.is)

pub returns : goal.returns
returns c =
    let f : Row → List FailureKind = λ row. option_to_list (failure_by_end (judge_view c.args.judge.now) row) in
    all_of f c.args.rows.now c.loop-row.row-index _ c.loop-row-test.false c.loop-row.invariant
