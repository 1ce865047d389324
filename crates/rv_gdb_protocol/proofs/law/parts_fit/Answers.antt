use Rattle.rv_gdb_protocol.proofs.Parts.{part_fits}
use Rattle.rv_gdb_protocol.proofs.law.parts_fit.Goals as goal

pub returns : goal.returns
returns c = part_fits
