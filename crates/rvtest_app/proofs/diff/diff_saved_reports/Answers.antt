use Rattle.std.proofs.Common.{◌≡◌, ◌≤◌, ◌∙◌, ◌+◌, ◌-◌, ℕ, Bool, true, false, List, ap, arith, length, sym}
use Rattle.std.proofs.lemmas.List.Sums.{count_by-le-length, length-filter}
use Rattle.std.specs.Prelude.{if◌then◌else◌, not}
use Rattle.rv_diff.specs.Diff.{is_missing_from, rows_in_both}
use Rattle.rv_rows.specs.declared_row.Row.{Row}
use Rattle.rv_rows.specs.declared_saved.SavedReport.{SavedReport}
use Rattle.rvtest_app.specs.Reports.{compared_rows, is_partial_of_whole}
use Rattle.rvtest_app.proofs.diff.diff_saved_reports.Goals as goal

beside_within : (others rows : List Row) → length (rows_in_both others rows) ≤ length rows
beside_within others rows =
    rw (length-filter (λ row. not (is_missing_from others row)) rows) (count_by-le-length (λ row. not (is_missing_from others row)) rows)

either_within : (is_part : Bool) (part rows : List Row) → length part ≤ length rows
    → length (if is_part then part else rows) ≤ length rows
either_within true part rows within = within
either_within false part rows within = omega arith

compared_within : (other report : SavedReport) → length (compared_rows other report) ≤ length report.rows
compared_within other report = either_within (is_partial_of_whole other.extent report.extent) _ report.rows
    (beside_within other.rows report.rows)

-- what is left out of two reports, by how many rows they have and how many of these are compared
counted : (old new before after : ℕ) → before ≤ old → after ≤ new
    → old + new - before - after ≡ (old - before) + (new - after)
counted old new before after fewer few = omega arith

pub overflow_sub-compared : goal.overflow_sub-compared
overflow_sub-compared c =
    let old = ap length (c.as_slice-3.ensures.value ∙ c.in_ok-old.ensures.old) in
    omega (
      arith,
      old,
      compared_within c.args.new c.args.old,
      c.len.ensures,
      c.as_slice-3.ensures.len,
      ap length c.as_slice.ensures,
    )

pub overflow_sub-compared-2 : goal.overflow_sub-compared-2
overflow_sub-compared-2 c =
    let old = ap length (c.as_slice-3.ensures.value ∙ c.in_ok-old.ensures.old) in
    let new = ap length (c.as_slice-4.ensures.value ∙ c.in_ok-old.ensures.new) in
    omega (
      arith,
      old,
      new,
      compared_within c.args.new c.args.old,
      compared_within c.args.old c.args.new,
      c.len.ensures,
      c.len-2.ensures,
      c.as_slice-3.ensures.len,
      c.as_slice-4.ensures.len,
      ap length c.as_slice.ensures,
      ap length c.as_slice-2.ensures,
    )

pub diff_rows-requires-clause-old : goal.diff_rows-requires-clause-old
diff_rows-requires-clause-old c =
    let old = ap length (c.as_slice-3.ensures.value ∙ c.in_ok-old.ensures.old) in
    omega (arith, old, compared_within c.args.new c.args.old, c.requires.old)

pub diff_rows-requires-clause-new : goal.diff_rows-requires-clause-new
diff_rows-requires-clause-new c =
    let new = ap length (c.as_slice-4.ensures.value ∙ c.in_ok-old.ensures.new) in
    omega (arith, new, compared_within c.args.old c.args.new, c.requires.new)

pub returns-clause-text : goal.returns-clause-text
returns-clause-text c =
    let old = c.as_slice-3.ensures.value ∙ c.in_ok-old.ensures.old in
    let new = c.as_slice-4.ensures.value ∙ c.in_ok-old.ensures.new in
    let left = counted (length c.args.old.rows) (length c.args.new.rows) _ _
    (compared_within c.args.new c.args.old) (compared_within c.args.old c.args.new) in
    rw (
      c.as_slice.ensures,
      c.as_slice-2.ensures,
      c.len.ensures,
      c.len-2.ensures,
      sym c.as_slice-3.ensures.len,
      sym c.as_slice-4.ensures.len,
      old,
      new,
      left,
    ) at c.diff_rows.ensures.text

pub returns-clause-exit_status : goal.returns-clause-exit_status
returns-clause-exit_status c =
    rw (c.as_slice-3.ensures.value, c.in_ok-old.ensures.old, c.as_slice-4.ensures.value, c.in_ok-old.ensures.new)
    at c.diff_rows.ensures.exit_status
