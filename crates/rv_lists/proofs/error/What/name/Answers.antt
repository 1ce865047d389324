use Rattle.std.proofs.Common.{rules}
use Rattle.rv_lists.proofs.error.What.name.Goals as goal

pub returns-in-SameAs : goal.returns-in-SameAs
returns-in-SameAs c = search rules
