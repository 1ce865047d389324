use Rattle.std.proofs.Common.{◌≡◌, count_by, take}
use Rattle.rv_list_locations.specs.LinesAndColumns.{is_line_feed}
use Rattle.rv_list_locations.proofs.lines.line_feed_count.Given as goal

abbrev pub invariant-loop-byte : goal.invariant-loop-byte
invariant-loop-byte l = l.count ≡ count_by is_line_feed (take l.byte-index l.text)
