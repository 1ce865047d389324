use Rattle.std.proofs.Common.{◌≡◌, drop}
use Rattle.rv_report.specs.LenientReport.{are_hex_digits}
use Rattle.rv_report.proofs.fields.are_hex_digits.Given as goal

abbrev pub invariant-loop-b : goal.invariant-loop-b
invariant-loop-b l = are_hex_digits (drop l.b-index l.text) ≡ are_hex_digits l.text
