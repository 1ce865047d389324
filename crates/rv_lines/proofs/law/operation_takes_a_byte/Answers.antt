use Rattle.rv_lines.proofs.LawsOfRows.{takes_a_byte}
use Rattle.rv_lines.proofs.law.operation_takes_a_byte.Goals as goal

pub returns : goal.returns
returns c = λ opcode_base lengths bytes rest op h. takes_a_byte opcode_base lengths bytes rest op h
