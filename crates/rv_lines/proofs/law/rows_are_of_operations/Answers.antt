use Rattle.rv_lines.proofs.LawsOfRows.{rows_counted, rows_in_order}
use Rattle.rv_lines.proofs.law.rows_are_of_operations.Goals as goal

pub returns-clause-order : goal.returns-clause-order
returns-clause-order c = λ p s front op back. rows_in_order p s front op back

pub returns-clause-count : goal.returns-clause-count
returns-clause-count c = λ p s ops. rows_counted p s ops
