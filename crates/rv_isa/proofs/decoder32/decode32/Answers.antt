use Rattle.rv_isa.proofs.WordRows.{meaning32_means}
use Rattle.rv_isa.proofs.WellFormed.{meaning32_formed}
use Rattle.rv_isa.proofs.decoder32.decode32.Goals as goal

pub returns-clause-meaning : goal.returns-clause-meaning
returns-clause-meaning c i = rw c.instr_of_word.ensures (meaning32_means c.args.isa c.args.word i)

pub returns-clause-well_formed : goal.returns-clause-well_formed
returns-clause-well_formed c = meaning32_formed c.args.isa c.args.word c.instr_of_word.result c.instr_of_word.ensures
