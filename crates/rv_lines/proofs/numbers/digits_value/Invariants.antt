use Rattle.std.proofs.Common.{◌≡◌, ◌≤◌, ◌^◌, length, min, drop}
use Rattle.rv_lines.specs.Numbers.{digits_value}
use Rattle.rv_lines.proofs.numbers.digits_value.Given as goal

abbrev pub invariant-loop-at : goal.invariant-loop-at
invariant-loop-at l = record {
  within : l.at ≤ length l.bytes;
  value : l.value ≡ min (2 ^ 32) (digits_value l.inverted (drop l.at l.bytes));
}

abbrev pub decreases-loop-at : goal.decreases-loop-at
decreases-loop-at l = l.at
