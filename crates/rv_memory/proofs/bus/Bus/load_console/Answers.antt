use Rattle.std.proofs.Common.{arith}
use Rattle.std.proofs.lemmas.Grind.{common_steps}
use Rattle.rv_memory.proofs.bus.Bus.load_console.Goals as goal

pub returns-then-addr-eq-SCRIPT_REMAINING-clause-value : goal.returns-then-addr-eq-SCRIPT_REMAINING-clause-value
returns-then-addr-eq-SCRIPT_REMAINING-clause-value c = grind (arith, common_steps)
