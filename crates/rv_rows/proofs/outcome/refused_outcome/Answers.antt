use Rattle.std.proofs.Common.{rules}
use Rattle.rv_rows.proofs.outcome.refused_outcome.Goals as goal

pub returns : goal.returns
returns c = search rules
