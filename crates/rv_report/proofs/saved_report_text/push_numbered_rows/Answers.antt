use Rattle.std.proofs.Common.{◌∙◌, ◌++◌, ℕ, List, get_or, refl, sym, ap, arith, append-nil, append_assoc, ◌-◌}
use Rattle.std.proofs.Common.{take, add-one}
use Rattle.std.specs.Prelude.{string_bytes}
use Rattle.rv_base.specs.Limits.{max_jobs}
use Rattle.rv_report.specs.Report.{row_text}
use Rattle.rv_report.specs.Saved.{numbered_rows_text}
use Rattle.rv_report.proofs.Loops.{numbered_more, above}
use Rattle.rv_report.proofs.saved_report_text.push_numbered_rows.Goals as goal

pub loop-at-init : goal.loop-at-init
unfolding numbered_rows_text
loop-at-init c = sym (append-nil (string_bytes c.args.text.now))

pub overflow_sub-numbers : goal.overflow_sub-numbers
overflow_sub-numbers c =
    let h = c.requires.one_number_each in
    omega (arith, above 0 max_jobs c.args.numbers.now c.loop-at.at c.requires.increasing (omega arith))

pub loop-at-preserved : goal.loop-at-preserved
loop-at-preserved c =
    let numbers = c.args.numbers.now in
    let rows = c.args.rows.now in
    let at = c.loop-at.at in
    let n = get_or numbers at 0 in
    let row = c.index-rows-at.result in
    rw add-one (c.in_ok-push_row.ensures ∙ ap (λ (t : List ℕ). t ++ row_text (n - 1) row) c.loop-at.invariant
    ∙ append_assoc (string_bytes c.args.text.now) (numbered_rows_text (take at numbers) (take at rows))
    (row_text (n - 1) row)
    ∙ ap (λ (t : List ℕ). string_bytes c.args.text.now ++ t)
    (sym (rw (← c.index-rows-at.is) at (numbered_more numbers rows at n (n - 1) row (omega arith) c.requires.one_number_each
    refl refl))))
