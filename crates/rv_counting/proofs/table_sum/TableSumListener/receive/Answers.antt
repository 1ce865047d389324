-- One table more is added.
use Rattle.std.proofs.Common.{◌∷◌, [], ◌++◌, map, subst}
use Rattle.rv_count_tables.specs.declared.table.CountTable.{CountTable}
use Rattle.rv_counting.specs.TableSums.{AreTablesAdded}
use Rattle.rv_counting.proofs.Adding.{one_result_added}
use Rattle.rv_counting.proofs.table_sum.TableSumListener.receive.Goals as goal

pub returns-clause-received : goal.returns-clause-received
returns-clause-received g c = λ results received.
    let table = g.T.HasTable.table in
    let now = c.add.new.self in
    one_result_added table now.sum now.failed results c.args.item
    (subst (λ (t : CountTable). AreTablesAdded now.sum now.failed (map table results ++ t ∷ [])) c.table.ensures.value
    (c.add.ensures.added (map table results) received))
