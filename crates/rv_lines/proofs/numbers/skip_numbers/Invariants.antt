use Rattle.std.proofs.Common.{◌≡◌, ◌-◌}
use Rattle.rv_lines.specs.Numbers.{skip_numbers}
use Rattle.rv_lines.proofs.numbers.skip_numbers.Given as goal

abbrev pub invariant-loop : goal.invariant-loop
invariant-loop l = skip_numbers l.cut (l.count - l.counter) l.rest ≡ skip_numbers l.cut l.count l.bytes
