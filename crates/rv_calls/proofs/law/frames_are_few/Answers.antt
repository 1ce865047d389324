use Rattle.rv_calls.proofs.Few.{few_at_end}
use Rattle.rv_calls.proofs.law.frames_are_few.Goals as goal

pub returns : goal.returns
returns c = few_at_end
