-- What is ahead, behind the digits so far, writes the word.
use Rattle.std.proofs.Common.{◌≡◌, drop}
use Rattle.rv_count_tables.proofs.Words.{hex_number}
use Rattle.rv_count_tables.proofs.line_parts.hex_word.Given as goal

abbrev pub invariant-loop-b : goal.invariant-loop-b
invariant-loop-b l = hex_number l.value (drop l.b-index l.digits) ≡ hex_number 0 l.digits
