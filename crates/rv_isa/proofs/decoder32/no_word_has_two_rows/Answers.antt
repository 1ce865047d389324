use Rattle.rv_isa.proofs.WordRows.{one_row}
use Rattle.rv_isa.proofs.decoder32.no_word_has_two_rows.Goals as goal

pub returns : goal.returns
returns c isa word = one_row isa word
