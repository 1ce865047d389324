use Rattle.std.proofs.Common.{sym, []}
use Rattle.std.proofs.lemmas.List.{get_or_past}
use Rattle.rv_disasm.specs.Operands.{register_names}
use Rattle.rv_trace.proofs.instruction_text.register_name_or_empty.Goals as goal

pub returns-else-number-lt32 : goal.returns-else-number-lt32
returns-else-number-lt32 c = sym (get_or_past register_names c.args.number [] c.if-number-lt32.false)
