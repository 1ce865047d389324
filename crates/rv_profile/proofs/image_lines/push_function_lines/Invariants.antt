-- The lines so far stand behind the text that there was.
use Rattle.std.proofs.Common.{◌≡◌, ◌++◌, take}
use Rattle.rv_profile.specs.Profile.{profiles_of}
use Rattle.rv_profile.specs.Text.{function_lines}
use Rattle.rv_profile.proofs.image_lines.push_function_lines.Given as goal

abbrev pub invariant-loop-function : goal.invariant-loop-function
invariant-loop-function l = l.bytes.items ≡ l.fn.bytes.items
    ++ function_lines l.columns l.steps (profiles_of (take l.function-index l.functions))
