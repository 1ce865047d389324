use Rattle.std.proofs.Common.{rules}
use Rattle.rv_memory.proofs.map.Region.offset_of.Goals as goal

pub returns-then-offset-self : goal.returns-then-offset-self
returns-then-offset-self c = search rules
