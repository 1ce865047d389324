use Rattle.std.proofs.Common.{◌≡◌, take}
use Rattle.regex.specs.Strings.{matcher_pattern, regex_pattern}
use Rattle.rv_choice.specs.Choice.{remaining_selection}
use Rattle.rv_choice.proofs.selection.remaining_selection.Given as goal

abbrev pub invariant-loop-index : goal.invariant-loop-index
invariant-loop-index l = record {
  remaining : l.remaining.items ≡ remaining_selection (regex_pattern l.excluded) (take l.index l.jobs) (take l.index l.selection);
  matcher : matcher_pattern l.matcher ≡ regex_pattern l.excluded;
}
