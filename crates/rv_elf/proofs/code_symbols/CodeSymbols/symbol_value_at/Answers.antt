-- The address less its offset.
use Rattle.rv_elf.proofs.CodeRanks.{value_of}
use Rattle.rv_elf.proofs.code_symbols.CodeSymbols.symbol_value_at.Goals as goal

pub returns : goal.returns
returns c = value_of _ c.args.self.now.strings.now c.args.addr _ c.in_ok-nearest_symbol.ensures
