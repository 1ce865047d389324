-- Whether two rows with the same name agree, and how a job changed from one report to another.
use Rattle.std.specs.Prelude.{◌==◌, ◌&&◌, ◌*◌, ◌-◌, ℕ, Bool, true, nat_lt, not, Option, Some, None, if◌then◌else◌}
use Rattle.std.specs.Str.{bytes_eq}
use Rattle.rv_rows.specs.declared_row.Row.{Row}
use Rattle.rv_rows.specs.declared_row.RowEnd.{RowEnd}
use Rattle.rv_rows.specs.declared_row.RowEnd.TheVariants as ending
use Rattle.rv_rows.specs.declared_row.Verdict.{Verdict}
use Rattle.rv_rows.specs.Report.{refusal_name, verdict_name}
use Rattle.rv_rows.specs.Verdict.{endings_match, are_same_signatures}
use Rattle.rv_diff.specs.declared.change.Change.{Change}
use Rattle.rv_diff.specs.declared.change.CompareMode.{CompareMode}
use Rattle.rv_diff.specs.declared.change.CompareMode.TheVariants.{Outcomes, Slower, Steps}
use Rattle.rv_diff.specs.declared.change.Change.TheVariants.{Gone, Added, Changed, Same}

-- ---- which rows differ

-- whether two endings are of one kind: two equal exit codes, two faults of one kind, two used-up budgets, or two equal refusals
abbrev pub are_same_end_kinds : RowEnd → RowEnd → Bool
are_same_end_kinds (ending.Refused refusal) (ending.Refused other) =
    bytes_eq (refusal_name refusal) (refusal_name other)
are_same_end_kinds old new = endings_match old new

-- whether two faults have equal addresses and equal values; true unless both endings are faults
abbrev pub agree_in_fault_pc_and_value : RowEnd → RowEnd → Bool
agree_in_fault_pc_and_value (ending.Fault kind pc value) (ending.Fault other other_pc other_value) = pc == other_pc && value == other_value
agree_in_fault_pc_and_value old new = true

-- whether two endings are equal, as far as the mode compares them: the addresses and values of faults are compared only if steps are
abbrev pub are_same_endings : CompareMode → RowEnd → RowEnd → Bool
are_same_endings Outcomes old new = are_same_end_kinds old new
are_same_endings (Slower percent) old new = are_same_end_kinds old new
are_same_endings Steps old new = are_same_end_kinds old new && agree_in_fault_pc_and_value old new

-- whether the number of steps increased by more than `percent` percent of the old number
abbrev pub is_slower : ℕ → ℕ → ℕ → Bool
is_slower percent old new = nat_lt (old * percent) ((new - old) * 100)

-- whether two rows agree in their steps, as far as the mode compares steps
abbrev pub agree_in_steps : CompareMode → Row → Row → Bool
agree_in_steps Outcomes old new = true
agree_in_steps Steps old new = old.steps == new.steps
agree_in_steps (Slower percent) old new = not (is_slower percent old.steps new.steps)

-- whether the consoles of two rows are equal
abbrev pub have_same_console : Row → Row → Bool
have_same_console old new = bytes_eq old.console new.console

-- whether two verdicts are equal
abbrev pub are_same_verdicts : Verdict → Verdict → Bool
are_same_verdicts old new = bytes_eq (verdict_name old) (verdict_name new)

-- whether two rows agree in everything that `mode` compares
unfoldable pub rows_agree : CompareMode → Row → Row → Bool
rows_agree mode old new = are_same_endings mode old.ending new.ending && agree_in_steps mode old new
    && have_same_console old new && are_same_signatures old.signature new.signature
    && are_same_verdicts old.verdict new.verdict

-- ---- how a job changed

-- how a job changed, given its rows in the old and in the new report, which are `None` if the report does not have the job; a job in
-- neither counts as unchanged
abbrev pub change_of : CompareMode → Option Row → Option Row → Change
change_of mode None None = Same
change_of mode None (Some new) = Added
change_of mode (Some old) None = Gone
change_of mode (Some old) (Some new) = if rows_agree mode old new then Same else Changed
