use Rattle.std.proofs.Common.{rules}
use Rattle.rv_elf.proofs.symbols.Symbol.is_candidate.Goals as goal

pub returns-then-has_usable_name : goal.returns-then-has_usable_name
returns-then-has_usable_name c = search rules
