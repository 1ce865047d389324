-- The line feeds so far, and one.
use Rattle.std.proofs.Common.{◌≡◌, ◌+◌, ◌≤◌, take}
use Rattle.rv_count_tables.specs.Lines.{line_feed_count}
use Rattle.rv_count_tables.proofs.read.line_number_at.Given as goal

abbrev pub invariant-loop-b : goal.invariant-loop-b
invariant-loop-b l = record {
  feeds : l.number ≡ line_feed_count (take l.b-index l.earlier) + 1;
  few : l.number ≤ l.b-index + 1;
}
