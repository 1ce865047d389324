use Rattle.std.proofs.Common.{◌≡◌, ◌∙◌, ap, arith, length, map, sym, take}
use Rattle.std.specs.Prelude.{insert}
use Rattle.rvtest_app.specs.declared.rows_with_most_steps.TheConstants.{MAX_SHOWN}
use Rattle.rv_diff.proofs.Public.{now}
use Rattle.rvtest_app.proofs.StepRanks.{rank_in, ranked-insert, take-insert, take-insert_last, map-take}
use Rattle.rvtest_app.proofs.rows_with_most_steps.insert_by_steps.Goals as goal

pub returns-then-rank-eq-MAX_SHOWN-clause-rows : goal.returns-then-rank-eq-MAX_SHOWN-clause-rows
returns-then-rank-eq-MAX_SHOWN-clause-rows c =
    let top_rows = c.args.top_rows.now.items in
    let row = c.args.row in
    let rank = c.rank_by_steps-rank.result in
    let at : rank ≡ rank_in row.now.steps top_rows =
    c.rank_by_steps-rank.ensures.rank ∙ ap (rank_in row.now.steps) c.as_slice.ensures.value in
    let full : length top_rows ≡ MAX_SHOWN = omega (arith, ap length c.as_slice.ensures.value) in
    sym (ap (take MAX_SHOWN) (ranked-insert row top_rows ∙ ap (λ p. map now (insert top_rows p row)) (sym at))
    ∙ map-take MAX_SHOWN (insert top_rows rank row)
    ∙ ap (map now) (ap (λ p. take MAX_SHOWN (insert top_rows p row)) c.if-rank-eq-MAX_SHOWN.true
    ∙ take-insert_last MAX_SHOWN row top_rows full))

pub returns-clause-rows : goal.returns-clause-rows
returns-clause-rows c =
    let top_rows = c.args.top_rows.now.items in
    let row = c.args.row in
    let rank = c.rank_by_steps-rank.result in
    let at : rank ≡ rank_in row.now.steps top_rows =
    c.rank_by_steps-rank.ensures.rank ∙ ap (rank_in row.now.steps) c.as_slice.ensures.value in
    ap (map now) (c.in_ok-insert.ensures.items
    ∙ ap (λ xs. insert xs rank row) c.truncate.ensures.items
    ∙ sym (take-insert 9 rank row top_rows (omega (arith, ap length c.as_slice.ensures.value))))
    ∙ sym (ap (take MAX_SHOWN) (ranked-insert row top_rows ∙ ap (λ p. map now (insert top_rows p row)) (sym at))
    ∙ map-take MAX_SHOWN (insert top_rows rank row))
