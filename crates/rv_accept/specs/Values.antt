-- The values in a list that accepting a run replaces.
use Rattle.std.specs.Prelude.{Bool, true, not, ℕ, List, [], Option, Some, codes}
use Rattle.std.specs.Fmt.{decimal}
use Rattle.std.specs.Str.{bytes_eq}
use Rattle.rv_rows.specs.declared_job.ExpectedConsole.{ExpectedConsole}
use Rattle.rv_rows.specs.declared_job.ExpectedConsole.TheVariants.{Text}
use Rattle.rv_rows.specs.declared_job.Job.{Job}
use Rattle.rv_rows.specs.Faults.{fault_name}
use Rattle.rv_rows.specs.declared_row.Row.{Row}
use Rattle.rv_rows.specs.declared_row.RowEnd.{RowEnd}
use Rattle.rv_rows.specs.declared_row.RowEnd.TheVariants as ending
use Rattle.rv_rows.specs.Verdict.{has_expected_end, has_expected_exit}
use Rattle.rv_accept.specs.BasicString.{basic_string}
use Rattle.rv_accept.specs.declared.values.ValueKey.{ValueKey}
use Rattle.rv_accept.specs.declared.values.ValueKey.TheVariants as key

-- the name of the key in a list
abbrev pub value_key_name : ValueKey → List ℕ
value_key_name key.Exit = codes "expect_exit"
value_key_name key.End = codes "expect_end"
value_key_name key.Console = codes "expect_console"

-- whether the console output equals the expected text in the list; true if there is none
abbrev pub has_expected_text : Option ExpectedConsole → List ℕ → Bool
has_expected_text (Some (Text bytes)) console = bytes_eq bytes console
has_expected_text _ console = true

-- whether accepting this row changes the value of this key
abbrev pub is_value_changed : ValueKey → Job → Row → Bool
is_value_changed key.Exit job row = not (has_expected_exit job.expect_exit row.ending)
is_value_changed key.End job row = not (has_expected_end job.expect_end row.ending)
is_value_changed key.Console job row = not (has_expected_text job.expect_console row.console)

-- the new value of this key in TOML; empty if the run has no value for it
unfoldable pub new_value_text : ValueKey → RowEnd → List ℕ → List ℕ
new_value_text key.Exit (ending.Exit code) console = decimal code
new_value_text key.End (ending.Fault kind pc value) console = basic_string (fault_name kind)
new_value_text key.Console end console = basic_string console
new_value_text key.Exit _ console = []
new_value_text key.End _ console = []
