use Rattle.std.proofs.Common.{rules}
use Rattle.rv_lists.proofs.run_keys.isa_from_text.Goals as goal

pub returns-then-eq : goal.returns-then-eq
returns-then-eq c = search rules
