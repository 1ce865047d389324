use Rattle.std.proofs.Common.{arith}
use Rattle.rv_elf.proofs.Texts.{is_names_end}
use Rattle.rv_elf.proofs.symbol_search.names_end.Goals as goal

pub returns-else-strings-end-ne0 : goal.returns-else-strings-end-ne0
returns-else-strings-end-ne0 c = is_names_end c.args.strings.now c.loop-end.end c.loop-end.invariant.0
    c.loop-end.invariant.1 (λ _. c.if-strings-end-ne0.false)

pub returns-after-loop-end : goal.returns-after-loop-end
returns-after-loop-end c = is_names_end c.args.strings.now c.loop-end.end c.loop-end.invariant.0
    c.loop-end.invariant.1 (λ l. absurd (omega arith))
