-- The names so far stand behind the text that there was.
use Rattle.std.proofs.Common.{◌≡◌, ◌++◌, map, take}
use Rattle.rv_cover_view.specs.Functions.{view_of_function}
use Rattle.rv_cover_view.specs.Text.{further_names}
use Rattle.rv_cover_view.proofs.text.push_further_names.Given as goal

abbrev pub invariant-loop-function : goal.invariant-loop-function
invariant-loop-function l = l.bytes.items ≡ l.fn.bytes.items ++ further_names (map view_of_function (take l.function-index l.functions))
