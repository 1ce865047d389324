use Rattle.rv_merge.proofs.RowsOfLists.{listed}
use Rattle.rv_merge.proofs.list_rows_law.rows_form_a_list.Goals as goal

pub returns : goal.returns
returns c = λ bytes list answers read is. listed bytes list answers c.args.rows.now read is c.prove_rows_have_numbers.ensures
