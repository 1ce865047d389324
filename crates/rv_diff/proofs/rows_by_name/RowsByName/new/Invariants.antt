use Rattle.std.proofs.Common.{◌≡◌, ◌≤◌, ℕ, List, drop, length, option_map}
use Rattle.std.specs.HashMap.{get_by}
use Rattle.std.specs.Str.{bytes_eq}
use Rattle.rv_diff.specs.RowsByName.{row_named}
use Rattle.rv_diff.proofs.rows_by_name.RowsByName.new.Given as goal

abbrev pub invariant-loop-left : goal.invariant-loop-left
invariant-loop-left l = record {
  first_by_name : (name : List ℕ) → option_map (λ row. row.now) (get_by (λ key. bytes_eq name key.now) l.first_by_name)
      ≡ row_named (drop l.left l.rows) name;
  within : l.left ≤ length l.rows;
}

abbrev pub decreases-loop-left : goal.decreases-loop-left
decreases-loop-left l = l.left
