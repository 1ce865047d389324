use Rattle.std.proofs.Common.{rules}
use Rattle.rv_memory.specs.Bus.{is_clean_range}
use Rattle.rv_memory.proofs.bus.Bus.clean.Goals as goal

pub returns-else-len-ne4 : goal.returns-else-len-ne4
unfolding is_clean_range
returns-else-len-ne4 c = search rules
