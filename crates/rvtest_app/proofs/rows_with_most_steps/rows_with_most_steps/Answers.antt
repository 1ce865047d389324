use Rattle.std.proofs.Common.{◌∙◌, ap, arith, drop, length, map, sym, take}
use Rattle.rvtest_app.specs.declared.rows_with_most_steps.TheConstants.{MAX_SHOWN}
use Rattle.rvtest_app.specs.ReportSummary.{rows_by_steps, inserted_by_steps}
use Rattle.rv_diff.proofs.Public.{drop-row, now}
use Rattle.rvtest_app.proofs.StepRanks.{rows_by_steps-more, rows_by_steps-none, take-ranked}
use Rattle.rvtest_app.proofs.rows_with_most_steps.rows_with_most_steps.Goals as goal

pub loop-left-init : goal.loop-left-init
loop-left-init c =
    let rows = c.args.rows.now in
    record {
      rows = ap (map now) c.new-top_rows.ensures.items
          ∙ sym (ap (take MAX_SHOWN) (rows_by_steps-none rows (length rows) (omega arith)));
      few = omega (arith, ap length c.new-top_rows.ensures.items);
      within = omega arith;
    }

pub loop-left-preserved : goal.loop-left-preserved
loop-left-preserved c =
    let rows = c.args.rows.now in
    let left = c.loop-left.left in
    let row = c.index-rows-left.result in
    let front = drop-row rows left row (omega arith) (omega arith) c.index-rows-left.is in
    record {
      rows = c.in_ok-insert_by_steps.ensures.rows
          ∙ ap (λ top_rows. take MAX_SHOWN (inserted_by_steps row top_rows)) c.loop-left.invariant.rows
          ∙ take-ranked MAX_SHOWN row (rows_by_steps (drop left rows))
          ∙ sym (ap (take MAX_SHOWN) (rows_by_steps-more rows left row front));
      few = c.in_ok-insert_by_steps.ensures.at_most_max;
      within = omega arith;
    }
