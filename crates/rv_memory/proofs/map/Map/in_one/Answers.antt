use Rattle.std.proofs.Common.{rules}
use Rattle.rv_memory.proofs.map.Map.in_one.Goals as goal

pub returns-else-len-eq0 : goal.returns-else-len-eq0
returns-else-len-eq0 c = search rules
