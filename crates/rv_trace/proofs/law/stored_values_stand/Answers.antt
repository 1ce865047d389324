use Rattle.rv_trace.proofs.Stored.{stored_stands}
use Rattle.rv_trace.proofs.law.stored_values_stand.Goals as goal

pub returns : goal.returns
returns c = stored_stands
