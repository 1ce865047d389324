use Rattle.std.proofs.Common.{length}
use Rattle.rv_lines.proofs.LawsOfRows.{few_operations}
use Rattle.rv_lines.proofs.law.operations_are_no_more_than_bytes.Goals as goal

pub returns : goal.returns
returns c = λ opcode_base lengths bytes. few_operations (length bytes) opcode_base lengths bytes
