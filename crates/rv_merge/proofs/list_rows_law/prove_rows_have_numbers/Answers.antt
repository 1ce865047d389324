use Rattle.std.proofs.Common.{arith}
use Rattle.rv_merge.proofs.RowsOfLists.{more}
use Rattle.rv_merge.proofs.list_rows_law.prove_rows_have_numbers.Goals as goal

pub loop-row-preserved : goal.loop-row-preserved
loop-row-preserved c =
    more c.args.rows.now c.loop-row.row-index c.row-item.result c.row-item.is c.loop-row-test.true c.prove_row_has_numbers.ensures
    c.loop-row.invariant

pub returns : goal.returns
returns c = λ k d within. let end = c.loop-row-test.false in c.loop-row.invariant k d (omega arith)
