use Rattle.std.proofs.Common.{◌≡◌, drop}
use Rattle.rv_report.specs.LenientReport.{decimal_number_from}
use Rattle.rv_report.proofs.fields.decimal_number.Given as goal

abbrev pub invariant-loop-b : goal.invariant-loop-b
invariant-loop-b l = decimal_number_from l.value (drop l.b-index l.text) ≡ decimal_number_from 0 l.text
