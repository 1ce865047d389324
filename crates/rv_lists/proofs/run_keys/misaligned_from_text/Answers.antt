use Rattle.std.proofs.Common.{rules}
use Rattle.rv_lists.proofs.run_keys.misaligned_from_text.Goals as goal

pub returns-then-eq-2 : goal.returns-then-eq-2
returns-then-eq-2 c = search rules
