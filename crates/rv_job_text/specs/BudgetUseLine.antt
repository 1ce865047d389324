-- The line that explains a used-up budget.
use Rattle.std.specs.Prelude.{◌≡◌, ◌==◌, ◌++◌, ℕ, Bool, List, [], Option, Some, None, codes, if◌then◌else◌}
use Rattle.rv_hang.specs.BudgetUse.{IsBudgetUseIn}
use Rattle.rv_hang.specs.declared.budget_use.BudgetUse.{BudgetUse}
use Rattle.rv_hang.specs.declared.budget_use.BudgetUse.TheVariants.{NoRepetition, Repeats}
use Rattle.rv_hang.specs.declared.repetition.Repetition.{Repetition}
use Rattle.rv_rows.specs.Plans.{PlanView}
use Rattle.rv_rows.specs.declared_job.Job.{Job}
use Rattle.rv_rows.specs.declared_row.Row.{Row}
use Rattle.rv_rows.specs.declared_row.RowEnd.{RowEnd}
use Rattle.rv_rows.specs.declared_row.RowEnd.TheVariants.{Budget}
use Rattle.rv_rows.specs.Report.{line}
use Rattle.rv_text.specs.Numbers.{count_text}

-- the note that a loop waits for input after the end of the script; empty if it does not
abbrev pub waiting_text : Bool → List ℕ
waiting_text waits_for_input = if waits_for_input then codes ", waiting for input after the end of the script" else []

-- the length of a loop as it follows `every`: `step` for 1, and `5 steps` for 5
abbrev pub period_text : ℕ → List ℕ
period_text period = if period == 1 then codes "step" else count_text period (codes "step")

-- the line about a run that would never end: after how many steps it begins to repeat, how long the loop is, and whether it waits for input
unfoldable pub repetition_line : Repetition → List ℕ
repetition_line r = line (codes "     never ends: after " ++ count_text r.begin (codes "step") ++ codes " it repeats every "
    ++ period_text r.period ++ waiting_text r.waits_for_input)

-- `its ` if all steps of the run were searched, or else `its last `
abbrev pub last_or_all_text : ℕ → ℕ → List ℕ
last_or_all_text steps within = if within == steps then codes "its " else codes "its last "

-- the line about a run in which no endless loop was found; the last `within` of its `steps` steps were searched
unfoldable pub changes_line : ℕ → ℕ → List ℕ
changes_line steps within = line (codes "     the budget may be too small: no endless loop was found in "
    ++ last_or_all_text steps within ++ count_text within (codes "step"))

-- the line that says how a run of this many steps used up its budget; empty if there is no analysis
abbrev pub budget_use_line : ℕ → Option BudgetUse → List ℕ
budget_use_line steps None = []
budget_use_line steps (Some (Repeats r)) = repetition_line r
budget_use_line steps (Some (NoRepetition within)) = changes_line steps within

-- `budget_use` says how the run used up its budget; it is `None` if the run ended in another way
abbrev pub IsBudgetUseAfter : RowEnd → PlanView → Job → ℕ → Option BudgetUse → Type 0
IsBudgetUseAfter Budget plan job steps budget_use = IsBudgetUseIn plan job steps budget_use
IsBudgetUseAfter _ plan job steps budget_use = budget_use ≡ None

-- `budget_use` says how the run that the row describes used up its budget; it is `None` if the run ended in another way
abbrev pub IsBudgetUseOfRow : PlanView → Job → Row → Option BudgetUse → Type 0
IsBudgetUseOfRow plan job row budget_use = IsBudgetUseAfter row.ending plan job row.steps budget_use
