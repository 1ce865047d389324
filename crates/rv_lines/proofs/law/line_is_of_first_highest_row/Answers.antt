use Rattle.rv_lines.proofs.LawsOfLines.{line_is_highest}
use Rattle.rv_lines.proofs.law.line_is_of_first_highest_row.Goals as goal

pub returns : goal.returns
returns c = λ strings section a source h. line_is_highest strings section a source h
