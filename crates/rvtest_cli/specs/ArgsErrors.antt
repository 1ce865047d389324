-- Errors in the arguments, and their texts.
use Rattle.std.specs.Prelude.{◌≡◌, ◌++◌, Result, MatchResult, [], codes, string_bytes}
use Rattle.clap.specs.Kinds.{IsAmong}
use Rattle.clap.specs.Words.{Kinds, Text}
use Rattle.clap.specs.declared.error.kind.ErrorKind.{ErrorKind}
use Rattle.clap.specs.declared.error.kind.ErrorKind.TheVariants as kind
use Rattle.rvtest_cli.specs.declared.args_error.ArgsError.{ArgsError}
use Rattle.rvtest_cli.specs.declared.args_error.ArgsError.TheVariants as error

-- memory ran out, or the error is of one of these kinds
abbrev pub IsErrorOfKinds : Kinds → ArgsError → Type 0
IsErrorOfKinds kinds error.OutOfMemory = Unit {0}
IsErrorOfKinds kinds (error.Message fault text) = IsAmong fault kinds

-- a result without an error requires that `kinds` is empty; an error is of one of these kinds, or memory ran out
abbrev pub FailsByKinds : {T : Type 0} → Kinds → Result T ArgsError → Type 0
FailsByKinds kinds result = MatchResult result (λ _. kinds ≡ []) (IsErrorOfKinds kinds)

-- memory ran out, or the error is of the kind `error_kind`, which is not `OutOfMemory`
abbrev pub IsErrorOfKind : ErrorKind → ArgsError → Type 0
IsErrorOfKind error_kind error.OutOfMemory = Unit {0}
IsErrorOfKind error_kind (error.Message fault text) = (fault ≡ error_kind) × (error_kind ≡ kind.OutOfMemory → ⊥)

-- the text of an error: the message, the usage of a command, and the hint to try `--help`
abbrev pub usage_error_text : Text → Text → Text
usage_error_text message usage =
    codes "error: " ++ (message ++ (codes "\n\n" ++ (usage ++ codes "\n\nFor more information, try '--help'.\n")))

-- `text` is the text of an error with this message and the usage of some command
abbrev pub IsUsageText : Text → Text → Type 0
IsUsageText message text = (usage : Text) × (text ≡ usage_error_text message usage)

-- memory ran out, or the error is of the kind `error_kind`, and its text has this message and the usage of some command
abbrev pub IsUsageError : ErrorKind → Text → ArgsError → Type 0
IsUsageError error_kind message error.OutOfMemory = Unit {0}
IsUsageError error_kind message (error.Message actual_kind text) = (actual_kind ≡ error_kind) × IsUsageText message (string_bytes text)
