use Rattle.std.proofs.Common.{length}
use denote.Shadow.{shadow}
use denote.Text.{Utf8}
use Rattle.std.specs.List.{All}
use Rattle.rv_list_locations.specs.ValueSpans.{IsSpanIn}
use Rattle.rv_list_locations.proofs.spans.push_value_spans.Given as goal

abbrev pub invariant-steps : goal.invariant-steps
invariant-steps l = shadow (Utf8 l.here) × All (IsSpanIn l.text) l.spans.items

abbrev pub decreases-steps : goal.decreases-steps
decreases-steps l = length l.here
