use Rattle.std.proofs.Common.{rules}
use Rattle.rv_memory.proofs.marks.mark.Goals as goal

pub returns-in-Word : goal.returns-in-Word
returns-in-Word c = search rules
