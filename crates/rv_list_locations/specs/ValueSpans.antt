-- The locations of job values in the text of a list.
use Rattle.std.specs.Prelude.{◌≤◌, ℕ, List, length}
use Rattle.rv_list_locations.specs.declared.spans.ValueSpan.{ValueSpan}

-- the span is within the text, and its end is not before its beginning
abbrev pub IsSpanIn : List ℕ → ValueSpan → Type 0
IsSpanIn text span = (span.begin ≤ span.end) × (span.end ≤ length text)
