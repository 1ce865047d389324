-- Those of the first symbols are kept.
use Rattle.rv_elf.specs.CodeSymbols.{AreCodeSymbols}
use Rattle.rv_elf.proofs.code_symbols.code_symbols.Given as goal

abbrev pub invariant-loop-k : goal.invariant-loop-k
invariant-loop-k l = AreCodeSymbols l.table l.strings l.k l.symbols.items
