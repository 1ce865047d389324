-- The message about an invalid value of an option.
use Rattle.std.specs.Prelude.{◌≡◌, ◌++◌, ℕ, List, MatchResult, Result, String, codes, string_bytes}
use Rattle.std.specs.declared.alloc.AllocError.{AllocError}
use Rattle.std.specs.declared.alloc.Global.{Global}
use Rattle.rv_command.specs.Stops.{IsUsageStop}
use Rattle.rv_command.specs.declared.stop.Stop.{Stop}
use Rattle.rv_command.specs.declared.stop.Stop.TheVariants as stops

-- the message that the option's value is invalid, and why
abbrev pub bad_value_text : List ℕ → List ℕ → List ℕ → List ℕ
bad_value_text option value reason =
    codes "invalid value '" ++ (value ++ (codes "' for '" ++ (option ++ (codes "': " ++ reason))))

-- `message` says that the value of the option is not a regular expression, for some reason
abbrev pub IsBadPatternText : List ℕ → List ℕ → List ℕ → Type 0
IsBadPatternText option text message = (reason : List ℕ) × (message ≡ bad_value_text option text reason)

-- the stop says that the value of the option is not a regular expression, with the usage of the command
abbrev pub IsBadPatternStop : List ℕ → List ℕ → Stop → Type 0
IsBadPatternStop option text stop = (reason : List ℕ) × IsUsageStop (bad_value_text option text reason) stop

-- the stop has this message with the usage of the command; out of memory if the message could not be made
abbrev pub IsBadValueStop : Result (String Global) AllocError → Stop → Type 0
IsBadValueStop message stop = MatchResult message (λ text. IsUsageStop (string_bytes text) stop) (λ _. stop ≡ stops.OutOfMemory)
