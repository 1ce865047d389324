use Rattle.rv_rows.proofs.Narrower.{rows_wider}
use Rattle.rv_rows.proofs.law.narrower_sets_only_refuse.Goals as goal

pub returns : goal.returns
returns c plan place row jobs is stays = rows_wider plan place row jobs is stays
