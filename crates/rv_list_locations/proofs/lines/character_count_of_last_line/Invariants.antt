use Rattle.std.proofs.Common.{◌≡◌, ◌≤◌, count_by, take}
use Rattle.std.specs.List.{after_last}
use Rattle.rv_list_locations.specs.LinesAndColumns.{begins_character, is_line_feed}
use Rattle.rv_list_locations.proofs.lines.character_count_of_last_line.Given as goal

abbrev pub invariant-loop-byte : goal.invariant-loop-byte
invariant-loop-byte l = record {
  characters : l.count ≡ count_by begins_character (after_last is_line_feed (take l.byte-index l.text));
  few : l.count ≤ l.byte-index;
}
