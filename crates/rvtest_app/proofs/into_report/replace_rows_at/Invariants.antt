use Rattle.std.proofs.Common.{◌≡◌, ◌+◌, length, drop}
use Rattle.std.specs.Prelude.{vec_len}
use Rattle.std.specs.Vec.Iter.{into_iter_items, into_iter_len}
use Rattle.rvtest_app.specs.IntoReports.{merged_rows}
use Rattle.rvtest_app.proofs.into_report.replace_rows_at.Given as goal

abbrev pub invariant-loop-row : goal.invariant-loop-row
invariant-loop-row l = record {
  put : merged_rows (drop l.next l.indices) (into_iter_items l.row-iterator) l.all_rows.items
      ≡ merged_rows l.indices l.fn.rows.items l.initial.all_rows.items;
  long : vec_len l.all_rows ≡ vec_len l.initial.all_rows;
  left : l.next + into_iter_len l.row-iterator ≡ length l.indices;
}
