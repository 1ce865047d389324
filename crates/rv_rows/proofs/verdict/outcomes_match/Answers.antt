use Rattle.std.proofs.Common.{rules}
use Rattle.rv_rows.proofs.verdict.outcomes_match.Goals as goal

pub returns : goal.returns
returns c = search rules
