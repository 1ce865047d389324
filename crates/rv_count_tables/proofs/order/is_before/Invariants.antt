-- What is ahead decides, for all before is the same.
use Rattle.std.proofs.Common.{◌≡◌, ◌≤◌, length, drop}
use Rattle.rv_count_tables.specs.Table.{is_before}
use Rattle.rv_count_tables.proofs.order.is_before.Given as goal

abbrev pub invariant-loop-at : goal.invariant-loop-at
invariant-loop-at l = record {
  within : l.at ≤ length l.a;
  ahead : is_before (drop l.at l.a) (drop l.at l.b) ≡ is_before l.a l.b;
}
