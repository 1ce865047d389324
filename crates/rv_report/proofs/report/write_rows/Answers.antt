use Rattle.std.proofs.Common.{◌∙◌, refl, arith, add-one, suc}
use Rattle.std.proofs.lemmas.Result.{err_from_is_err_and}
use Rattle.rv_report.specs.Report.{row_text, rows_text}
use Rattle.rv_base.proofs.Public.{beginning_of_longer, failed_under_way, more_under_way, nothing_under_way}
use Rattle.rv_report.proofs.RowSender.{rows_more}
use Rattle.rv_report.proofs.RowSender.{rows_split}
use Rattle.rv_base.proofs.Public.{stopped_under_way}
use Rattle.rv_report.proofs.report.write_rows.Goals as goal

pub loop-index-init : goal.loop-index-init
unfolding rows_text
loop-index-init g c = record { partly_written = nothing_under_way _ _ _ c.requires; counted = refl }

pub returns-in_err-push_row-clause-prefix : goal.returns-in_err-push_row-clause-prefix
returns-in_err-push_row-clause-prefix g c =
    let error = err_from_is_err_and c.from_residual.result c.from_residual.ensures.1 in
    rw error.1 (stopped_under_way _ _ _ _ _ _ c.loop-index.invariant.partly_written
    (rows_split 0 c.args.rows.now c.loop-index.index c.loop-index.index (omega arith)))

pub returns-in_err-write_text_if_large-clause-prefix : goal.returns-in_err-write_text_if_large-clause-prefix
returns-in_err-write_text_if_large-clause-prefix g c =
    let rows = c.args.rows.now in
    let place = c.loop-index.index in
    let error = err_from_is_err_and c.from_residual-in_err-write_text_if_large.result
    c.from_residual-in_err-write_text_if_large.ensures.1 in
    rw error.1 (beginning_of_longer _ _ _ _ _
    (failed_under_way _ _ _ _ (row_text place c.index-rows-index.result) _ _ _ c.loop-index.invariant.partly_written
    c.in_ok-push_row.ensures c.in_err-write_text_if_large.ensures.prefix
    (rw (← c.index-rows-index.is) at
    (rows_more 0 rows place place c.index-rows-index.result (omega arith) (omega arith))))
    (rows_split 0 rows (suc place) (suc place) (omega arith)))

pub loop-index-preserved : goal.loop-index-preserved
loop-index-preserved g c =
    let place = c.loop-index.index in record {
      partly_written = rw add-one (more_under_way _ _ _ _ (row_text place c.index-rows-index.result) _ _ _ _
          c.loop-index.invariant.partly_written c.in_ok-push_row.ensures c.in_ok-write_text_if_large.ensures.partly_written
          (rw (← c.index-rows-index.is) at
          (rows_more 0 c.args.rows.now place place c.index-rows-index.result (omega arith) (omega arith))));
      counted = c.in_ok-write_text_if_large.ensures.no_failures ∙ c.loop-index.invariant.counted;
    }
