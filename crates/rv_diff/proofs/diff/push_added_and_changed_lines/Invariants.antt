use Rattle.std.proofs.Common.{◌≡◌, ◌+◌, ◌≤◌, ◌++◌, take}
use Rattle.std.specs.List.{flat_map}
use Rattle.std.specs.Prelude.{count_by}
use Rattle.rv_diff.specs.RowsByName.{row_named}
use Rattle.rv_diff.specs.Diff.{is_missing_from, is_changed, changes_of_row}
use Rattle.rv_diff.proofs.diff.push_added_and_changed_lines.Given as goal

abbrev pub invariant-loop-row : goal.invariant-loop-row
invariant-loop-row l = record {
  text : l.text.items ≡ l.fn.text.items
      ++ flat_map (λ row. changes_of_row l.mode (row_named l.old row.name) row) (take l.row-index l.new);
  added : l.added ≡ count_by (is_missing_from l.old) (take l.row-index l.new);
  changed : l.changed
      ≡ count_by (λ row. is_changed l.mode (row_named l.old row.name) row) (take l.row-index l.new);
  within : l.added + l.changed ≤ l.row-index;
}
