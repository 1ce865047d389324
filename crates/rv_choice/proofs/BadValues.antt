-- Refusals of values of options.
use Rattle.std.proofs.Common.{◌≡◌, ℕ, List, [], IfOk, Result, Ok, Err, String, inl, string_bytes, subst}
use Rattle.std.specs.declared.alloc.AllocError.{AllocError}
use Rattle.std.specs.declared.alloc.Global.{Global}
use Rattle.rv_choice.specs.BadValues.{IsBadPatternStop, IsBadPatternText, IsBadValueStop}
use Rattle.rv_command.specs.Stops.{IsUsageStop}
use Rattle.rv_command.specs.declared.stop.Stop.{Stop}

-- a text that was made is told, and else memory was wanting
pub stop_of_text : (what : Result (String Global) AllocError) (text : List ℕ) (stop : Stop)
    → IfOk what (λ told. string_bytes told ≡ text) → IsBadValueStop what stop → IsUsageStop text stop
stop_of_text (Ok told) text stop same is = subst (λ t. IsUsageStop t stop) same is
stop_of_text (Err error) text stop same is = inl is

pub stop_of_pattern_text : (what : Result (String Global) AllocError) (option text : List ℕ) (stop : Stop)
    → IfOk what (λ told. IsBadPatternText option text (string_bytes told)) → IsBadValueStop what stop
    → IsBadPatternStop option text stop
stop_of_pattern_text (Ok told) option text stop said is = (said.0, subst (λ t. IsUsageStop t stop) said.1 is)
stop_of_pattern_text (Err error) option text stop said is = ([], inl is)
