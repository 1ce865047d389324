use Rattle.rv_isa.proofs.HalfwordRows.{one_row}
use Rattle.rv_isa.proofs.decoder16.no_halfword_has_two_rows.Goals as goal

pub returns : goal.returns
returns c isa half = one_row isa half
