-- What is ahead, behind the digits so far, writes the number.
use Rattle.std.proofs.Common.{◌≡◌, drop}
use Rattle.rv_count_tables.proofs.Words.{decimal_number_from}
use Rattle.rv_count_tables.proofs.line_parts.decimal_number.Given as goal

abbrev pub invariant-loop-b : goal.invariant-loop-b
invariant-loop-b l = decimal_number_from l.value (drop l.b-index l.text) ≡ decimal_number_from 0 l.text
