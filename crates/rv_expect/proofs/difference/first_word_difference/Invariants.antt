use Rattle.std.proofs.Common.{◌≡◌, ◌≤◌, drop, length}
use Rattle.rv_expect.specs.Difference.{difference_from}
use Rattle.rv_expect.proofs.difference.first_word_difference.Given as goal

abbrev pub invariant-loop-place : goal.invariant-loop-place
invariant-loop-place l = record {
  same : difference_from l.place (drop l.place l.actual) (drop l.place l.expected)
      ≡ difference_from 0 l.actual l.expected;
  within : l.place ≤ length l.expected;
}
