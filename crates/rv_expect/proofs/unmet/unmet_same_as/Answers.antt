use Rattle.std.proofs.Common.{rules}
use Rattle.rv_expect.proofs.unmet.unmet_same_as.Goals as goal

pub returns-in-Some : goal.returns-in-Some
returns-in-Some c = search rules
