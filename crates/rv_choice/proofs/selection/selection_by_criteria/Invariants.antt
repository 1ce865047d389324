use Rattle.std.proofs.Common.{◌≡◌, take}
use Rattle.std.specs.Prelude.{option_map}
use Rattle.regex.specs.Strings.{matcher_pattern}
use Rattle.rv_choice.specs.Choice.{selection_by_criteria, pattern_of, optional_names}
use Rattle.rv_choice.proofs.selection.selection_by_criteria.Given as goal

abbrev pub invariant-loop-index : goal.invariant-loop-index
invariant-loop-index l = record {
  selection : l.selection.items ≡ selection_by_criteria (optional_names l.criteria.only) (pattern_of l.criteria.pattern)
      (optional_names l.criteria.failed) (take l.index l.jobs);
  matcher : option_map matcher_pattern l.matcher ≡ pattern_of l.criteria.pattern;
}
