use Rattle.std.proofs.Common.{◌∙◌, ◌++◌, ◌<◌, ℕ, List, ap, arith, get_or, length, sym}
use Rattle.std.specs.List.{zip}
use Rattle.std.specs.Prelude.{option_to_list}
use Rattle.rv_rows.specs.declared_row.Row.{Row}
use Rattle.rv_expect.specs.FailureKinds.{failure_in_plan}
use Rattle.rv_expect.specs.declared.failure_kind.FailureKind.{FailureKind}
use Rattle.rv_expect.specs.Judgement.{judge_view}
use Rattle.rv_expect.proofs.Collecting.{all_of, one_more, pair_at, pairs}
use Rattle.rv_expect.proofs.failures.failures_in_plan.Goals as goal

pub loop-i-preserved : goal.loop-i-preserved
loop-i-preserved c =
    let f : ℕ × Row → List FailureKind =
    λ placed. option_to_list (failure_in_plan (judge_view c.args.judge.now) c.args.plan.now placed.0 placed.1) in
    let places = c.args.indices.now in
    let rows = c.args.rows.now in
    let i = c.loop-i.i in
    let row = c.index-rows-i.result in
    let mid = c.loop-i.failures.items in
    let here : i < length (zip places rows) = omega (arith, pairs places rows c.requires) in
    one_more f (zip places rows) i (0, row) mid _ here c.loop-i.invariant
    (c.in_ok-push_if_failed.ensures ∙ ap (λ o. mid ++ option_to_list o) c.in_ok-failure.ensures
    ∙ ap (λ r. mid ++ f (get_or places i 0, r)) c.index-rows-i.is
    ∙ ap (λ placed. mid ++ f placed) (sym (pair_at places rows i 0 row (omega arith) (omega arith))))

pub returns : goal.returns
returns c =
    let f : ℕ × Row → List FailureKind =
    λ placed. option_to_list (failure_in_plan (judge_view c.args.judge.now) c.args.plan.now placed.0 placed.1) in
    let places = c.args.indices.now in
    let rows = c.args.rows.now in
    all_of f (zip places rows) c.loop-i.i _ (omega (arith, pairs places rows c.requires)) c.loop-i.invariant

pub bounds-rows-i : goal.bounds-rows-i
bounds-rows-i c = omega arith

pub bounds-indices-i : goal.bounds-indices-i
bounds-indices-i c = omega arith
