use Rattle.std.proofs.Common.{◌≡◌, ◌≤◌, ◌++◌, take}
use Rattle.std.specs.List.{flat_map}
use Rattle.std.specs.Prelude.{count_by}
use Rattle.rv_diff.specs.RowsByName.{row_named}
use Rattle.rv_diff.specs.Diff.{gone_line, is_missing_from}
use Rattle.rv_diff.proofs.diff.push_gone_lines.Given as goal

abbrev pub invariant-loop-row : goal.invariant-loop-row
invariant-loop-row l = record {
  text : l.text.items ≡ l.fn.text.items
      ++ flat_map (λ row. gone_line (row_named l.new row.name) row) (take l.row-index l.old);
  count : l.gone ≡ count_by (is_missing_from l.new) (take l.row-index l.old);
  within : l.gone ≤ l.row-index;
}
