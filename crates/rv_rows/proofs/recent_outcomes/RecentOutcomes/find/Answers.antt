use Rattle.std.proofs.Common.{rules}
use Rattle.rv_rows.proofs.recent_outcomes.RecentOutcomes.find.Goals as goal

pub returns-then-kept-index : goal.returns-then-kept-index
returns-then-kept-index c = search rules
