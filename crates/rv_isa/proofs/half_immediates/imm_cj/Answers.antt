use Rattle.std.proofs.Common.{rules}
use Rattle.rv_isa.proofs.half_immediates.imm_cj.Goals as goal

pub returns-clause-value : goal.returns-clause-value
returns-clause-value c = search rules
