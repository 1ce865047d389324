use Rattle.std.proofs.Common.{rules}
use Rattle.rv_fleet.proofs.collect.store_chunk.Goals as goal

pub returns-then-is_none : goal.returns-then-is_none
returns-then-is_none c = search rules

pub returns-else-is_none : goal.returns-else-is_none
returns-else-is_none c = c.requires.slots
