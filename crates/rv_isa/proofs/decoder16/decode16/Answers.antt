use Rattle.rv_isa.proofs.HalfwordRows.{meaning16_means}
use Rattle.rv_isa.proofs.decoder16.decode16.Goals as goal

pub returns-clause-meaning : goal.returns-clause-meaning
returns-clause-meaning c i = rw c.instr_of_half.ensures.value (meaning16_means c.args.isa c.args.half i)
