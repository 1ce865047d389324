-- Commands under construction, and the rules of the arguments that both programs have.
use Rattle.std.specs.Prelude.{◌≡◌, ℕ, List, [], ◌∷◌, true, false, IfOk, IsSomeAnd, Result, Some, string_bytes}
use Rattle.std.specs.Borrow.{Bor}
use Rattle.std.specs.declared.alloc.AllocError.{AllocError}
use Rattle.clap.specs.Texts.{items_of}
use Rattle.clap.specs.Words.{App, Rule, Text, app_of, new_rule}
use Rattle.clap.specs.declared.builder.arg.Arg.{Arg}
use Rattle.clap.specs.declared.builder.command.Command.{Command}
use Rattle.clap.specs.declared.builder.command.Command.TheViews.{out-Command}

-- the command has the rules `app`; also true if memory ran out
abbrev pub HasApp : App → Result Command AllocError → Type 0
HasApp app built = IfOk built (λ command. app_of command ≡ app)

-- the command has the rules `app`, and none of its arguments applies to its subcommands as well; also true if memory ran out
abbrev pub IsBuilt : App → Result Command AllocError → Type 0
IsBuilt app built =
    IfOk built (λ command. (app_of command ≡ app) × ((out-Command command).has_globals ≡ false))

-- the command shows this text as its version; also true if memory ran out
abbrev pub HasVersion : List ℕ → Result Command AllocError → Type 0
HasVersion text built = IfOk built (λ command. IsSomeAnd (out-Command command).version (λ version. version.now ≡ text))

-- the usage of the command begins with this text; also true if memory ran out
abbrev pub HasUsageOf : List ℕ → Result Command AllocError → Type 0
HasUsageOf text built =
    IfOk built (λ command. IsSomeAnd (out-Command command).bin_name (λ usage. string_bytes usage ≡ text))

-- the help of the command ends with this text; also true if memory ran out
abbrev pub HasAfterHelp : List ℕ → Result Command AllocError → Type 0
HasAfterHelp text built = IfOk built (λ command. IsSomeAnd (out-Command command).after_help (λ after. after.now ≡ text))

-- the rule of the required positional argument `name`, such as `<LIST>`
abbrev pub positional_rule : Text → Rule
positional_rule name = record (new_rule name) { required = true; value_names = 1 }

-- the rule of the option `--name`, which has one value
abbrev pub option_rule : Text → Rule
option_rule name = record (new_rule name) { long = Some name; value_names = 1 }

-- in the help the argument has the value name `value` and the description `text`
abbrev pub IsShownAs : Bor Text → Bor Text → Arg → Type 0
IsShownAs value text argument = (items_of argument.val_names ≡ value ∷ []) × (argument.help ≡ Some text)
