use Rattle.rv_hang.proofs.Cycles.{never_ends}
use Rattle.rv_hang.proofs.law.repetitions_never_end.Goals as goal

pub returns : goal.returns
returns c = never_ends
