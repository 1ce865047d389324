use Rattle.rv_lines.proofs.LawsOfUnits.{rows_alone}
use Rattle.rv_lines.proofs.law.rows_depend_on_the_unit.Goals as goal

pub returns : goal.returns
returns c = λ strings unit more e. rows_alone strings unit more e
