-- What a command is once one more argument, or one more subcommand, is added to it.
use Rattle.std.proofs.Common.{◌≡◌, ◌∙◌, ◌||◌, false, IfOk, Result, Ok, Err}
use Rattle.std.specs.declared.alloc.AllocError.{AllocError}
use Rattle.clap.specs.Words.{AddsArg, AddsSubcommand, App, Rule, app_of, rule_of, with_rule, with_subcommand}
use Rattle.clap.specs.declared.builder.arg.Arg.{Arg}
use Rattle.clap.specs.declared.builder.command.Command.{Command}
use Rattle.clap.specs.declared.builder.command.Command.TheViews.{out-Command}
use Rattle.rv_cli.specs.CommandBuilder.{HasApp, IsBuilt}

-- this shape, and no argument that subcommands have too
abbrev pub Is : App → Command → Type 0
Is app command = (app_of command ≡ app) × ((out-Command command).has_globals ≡ false)

pub with_argument : (old : Command) (arg : Arg) (app : App) (rule : Rule) (answer : Result Command AllocError)
    → IfOk answer (λ new. AddsArg old arg new) → Is app old → (rule_of arg ≡ rule) × (arg.global ≡ false)
    → IfOk answer (λ new. Is (with_rule app rule) new)
with_argument old arg app rule (Ok new) adds is added =
    (adds.shape added.1 ∙ (λ i. with_rule (is.0 i) (added.0 i)), adds.globals ∙ (λ i. is.1 i || added.1 i))
with_argument old arg app rule (Err e) adds is added = tt

pub with_subcommand_lem : (old sub : Command) (app below : App) (answer : Result Command AllocError)
    → IfOk answer (λ new. AddsSubcommand old sub new) → app_of old ≡ app → Is below sub
    → IfOk answer (λ new. app_of new ≡ with_subcommand app below.top)
with_subcommand_lem old sub app below (Ok new) adds is added =
    adds.shape added.1 ∙ (λ i. with_subcommand (is i) (added.0 i).top)
with_subcommand_lem old sub app below (Err e) adds is added = tt

pub its_app : (app : App) (built : Result Command AllocError) → IsBuilt app built → HasApp app built
its_app app (Ok command) is = is.0
its_app app (Err e) is = tt
