use Rattle.std.proofs.Common.{◌≡◌, ℕ, List, Err, subst}
use Rattle.rv_command.specs.declared.stop.Stop.{Stop}
use Rattle.rv_count_tables.specs.Read.{IsOkOrOutOfMemory, IsFirstError}
use Rattle.rv_count_tables.specs.Table.{IsValidTable}
use Rattle.rv_count_tables.specs.Text.{table_text}
use Rattle.rv_count_tables.specs.declared.read.ReadError.{ReadError}
use Rattle.rv_count_tables.specs.declared.table.CountTable.{CountTable}
use Rattle.rvtest_app.specs.CountStops.{IsReadErrorStop, IsTableFaultStop}
use Rattle.rvtest_app.proofs.counts.table_of_text.Goals as goal

refused_table : (path text : List ℕ) (error : ReadError) (stop : Stop) → IsFirstError error text
    → ((table : CountTable) → IsValidTable table → table_text table ≡ text → IsOkOrOutOfMemory table (Err error))
    → IsReadErrorStop path error stop → IsTableFaultStop path text stop
refused_table path text error stop least only is = record {
  reported = (error, (least, is));
  valid_table = λ table can same. subst (λ e. IsReadErrorStop path e stop) (only table can same) is;
}

pub returns-in-Err-clause-stopped : goal.returns-in-Err-clause-stopped
returns-in-Err-clause-stopped c =
    refused_table _ _ _ _ c.in-Err.ensures.first_error c.in-Err.ensures.accepts c.read_error_stop.ensures
