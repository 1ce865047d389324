use Rattle.std.proofs.Common.{arith}
use Rattle.std.proofs.lemmas.Grind.{common_steps}
use Rattle.rv_report.proofs.signature_lines.are_word_lines.Goals as goal

pub returns : goal.returns
returns c = grind (arith, common_steps)
