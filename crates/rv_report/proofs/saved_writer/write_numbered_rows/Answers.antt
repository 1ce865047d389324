use Rattle.std.proofs.Common.{◌∙◌, ◌-◌, get_or, refl, arith, add-one, suc}
use Rattle.std.proofs.lemmas.Result.{err_from_is_err_and}
use Rattle.rv_base.specs.Limits.{max_jobs}
use Rattle.rv_report.specs.Report.{row_text}
use Rattle.rv_base.proofs.Public.{beginning_of_longer, failed_under_way, more_under_way, nothing_under_way}
use Rattle.rv_base.proofs.Public.{stopped_under_way}
use Rattle.rv_report.specs.Saved.{numbered_rows_text}
use Rattle.rv_report.proofs.Public.{above, numbered_more, numbered_split}
use Rattle.rv_report.proofs.saved_writer.write_numbered_rows.Goals as goal

pub loop-at-init : goal.loop-at-init
unfolding numbered_rows_text
loop-at-init g c = record { partly_written = nothing_under_way _ _ _ c.requires.empty; counted = refl }

pub overflow_sub-numbers : goal.overflow_sub-numbers
overflow_sub-numbers g c =
    let h = c.requires.counted in
    omega (arith, above 0 max_jobs c.args.numbers.now c.loop-at.at c.requires.increasing (omega arith))

pub returns-in_err-push_row-clause-prefix : goal.returns-in_err-push_row-clause-prefix
returns-in_err-push_row-clause-prefix g c =
    let error = err_from_is_err_and c.from_residual.result c.from_residual.ensures.1 in
    rw error.1 (stopped_under_way _ _ _ _ _ _ c.loop-at.invariant.partly_written
    (numbered_split c.args.numbers.now c.args.rows.now c.loop-at.at c.requires.counted))

pub returns-in_err-write_text_if_large-clause-prefix : goal.returns-in_err-write_text_if_large-clause-prefix
returns-in_err-write_text_if_large-clause-prefix g c =
    let numbers = c.args.numbers.now in
    let rows = c.args.rows.now in
    let at = c.loop-at.at in
    let n = get_or numbers at 0 in
    let error = err_from_is_err_and c.from_residual-in_err-write_text_if_large.result
    c.from_residual-in_err-write_text_if_large.ensures.1 in
    rw error.1 (beginning_of_longer _ _ _ _ _
    (failed_under_way _ _ _ _ (row_text (n - 1) c.index-rows-at.result) _ _ _ c.loop-at.invariant.partly_written
    c.in_ok-push_row.ensures c.in_err-write_text_if_large.ensures.prefix
    (rw (← c.index-rows-at.is) at
    (numbered_more numbers rows at n (n - 1) c.index-rows-at.result (omega arith) c.requires.counted refl refl)))
    (numbered_split numbers rows (suc at) c.requires.counted))

pub loop-at-preserved : goal.loop-at-preserved
loop-at-preserved g c =
    let numbers = c.args.numbers.now in
    let at = c.loop-at.at in
    let n = get_or numbers at 0 in record {
      partly_written = rw add-one (more_under_way _ _ _ _ (row_text (n - 1) c.index-rows-at.result) _ _ _ _
          c.loop-at.invariant.partly_written c.in_ok-push_row.ensures c.in_ok-write_text_if_large.ensures.partly_written
          (rw (← c.index-rows-at.is) at
          (numbered_more numbers c.args.rows.now at n (n - 1) c.index-rows-at.result (omega arith) c.requires.counted
          refl refl)));
      counted = c.in_ok-write_text_if_large.ensures.no_failures ∙ c.loop-at.invariant.counted;
    }
