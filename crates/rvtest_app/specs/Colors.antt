-- Whether results are colored, and what colored output is.
use Rattle.std.specs.Prelude.{◌≡◌, ℕ, Bool, List, Option, Some, None, codes, if◌then◌else◌}
use Rattle.std.specs.Str.{bytes_eq}
use Rattle.rvtest_cli.specs.declared.requests.Request.{Request}
use Rattle.rvtest_cli.specs.declared.requests.Request.TheVariants as request
use Rattle.rv_terminal.specs.ColorSinks.{IsColoredAs}
use Rattle.rv_terminal.specs.declared.colors.Colors.{Colors}
use Rattle.rv_terminal.specs.declared.colors.Colors.TheVariants as colors
use Rattle.rv_command.specs.Texts.{optional_text}
use Rattle.rvtest_app.specs.IntoReports.{uses_run_stdout}
use Rattle.rvtest_app.specs.Outlets.{is_stdout_at}
use Rattle.rvtest_app.specs.CommandOutputs.{CommandOutputs}

-- whether results are colored if `--color` does not say so: only on a terminal
abbrev pub terminal_colors : Bool → Colors
terminal_colors is_terminal = if is_terminal then colors.Colored else colors.Plain

-- whether results are colored, as the value of `--color` says: always, never, or otherwise only on a terminal
abbrev pub colors_of_value : Option (List ℕ) → Bool → Colors
colors_of_value (Some word) is_terminal = if bytes_eq word (codes "always") then colors.Colored
    else if bytes_eq word (codes "never") then colors.Plain else terminal_colors is_terminal
colors_of_value None is_terminal = terminal_colors is_terminal

-- `Plain` if an output file goes to standard output (the Bool is true), else the given value
abbrev pub colors_unless_stdout_used : Bool → Colors → Colors
colors_unless_stdout_used uses_stdout given = if uses_stdout then colors.Plain else given

-- whether the results of a command are colored, given whether standard output is a terminal that supports colors; only those of `run`,
-- `explain`, `diff` and `show` ever are
abbrev pub requested_colors : Request → Bool → Colors
requested_colors (request.Run args) is_terminal =
    colors_unless_stdout_used (uses_run_stdout args) (colors_of_value (optional_text args.color) is_terminal)
requested_colors (request.Explain args) is_terminal = colors_of_value (optional_text args.color) is_terminal
requested_colors (request.Diff args) is_terminal = colors_of_value (optional_text args.color) is_terminal
requested_colors (request.Show args) is_terminal =
    colors_unless_stdout_used (is_stdout_at (optional_text args.junit)) (colors_of_value (optional_text args.color) is_terminal)
requested_colors _ is_terminal = colors.Plain

-- the output `after` is the output `plain` with the results on standard output colored
pub record IsColoredOutput (colors : Colors) (before plain after : CommandOutputs) : Type 0 where
  pub out : IsColoredAs colors before.out plain.out after.out
  pub errors : after.errors ≡ plain.errors
  pub failures : after.failures ≡ plain.failures
  pub committed : after.committed ≡ plain.committed
