use Rattle.std.proofs.Common.{◌≡◌, drop}
use Rattle.rv_report.specs.LenientReport.{hex_number}
use Rattle.rv_report.proofs.fields.hex_number.Given as goal

abbrev pub invariant-loop-b : goal.invariant-loop-b
invariant-loop-b l = hex_number l.value (drop l.b-index l.digits) ≡ hex_number 0 l.digits
