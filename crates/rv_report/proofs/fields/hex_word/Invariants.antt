use Rattle.std.proofs.Common.{◌≡◌, ◌-◌, ◌≤◌}
use Rattle.rv_report.specs.LenientReport.{with_zero_digits, hex_word}
use Rattle.rv_report.proofs.fields.hex_word.Given as goal

abbrev pub invariant-loop : goal.invariant-loop
invariant-loop l = record {
  rest : with_zero_digits (8 - l.counter) l.value ≡ hex_word l.text;
  within : l.counter ≤ 8;
}
