use Rattle.std.proofs.Common.{rules}
use Rattle.rv_elf.proofs.symbols.Symbol.covers_address.Goals as goal

pub returns-then-self-addr-2 : goal.returns-then-self-addr-2
returns-then-self-addr-2 c = search rules
