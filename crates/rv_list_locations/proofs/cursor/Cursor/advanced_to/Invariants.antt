use Rattle.std.proofs.Common.{◌≡◌}
use Rattle.rv_list_locations.specs.LinesAndColumns.{column_at, line_at}
use Rattle.rv_list_locations.proofs.cursor.Cursor.advanced_to.Given as goal

abbrev pub invariant-loop-at : goal.invariant-loop-at
invariant-loop-at l = record {
  line : l.line ≡ line_at l.at l.self.text.now;
  column : l.column ≡ column_at l.at l.self.text.now;
}
