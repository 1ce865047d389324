-- A sort moves the symbols, and no more.
use Rattle.std.proofs.Common.{rules}
use Rattle.std.proofs.lemmas.List.Sorted.{IsNonDecreasingBy-from_sort_by_key}
use Rattle.rv_elf.specs.CodeSymbols.{symbol_count}
use Rattle.rv_elf.proofs.CodeRanks.{in_order}
use Rattle.rv_elf.proofs.code_symbols.sorted_symbols.Goals as goal

pub returns-clause-symbols : goal.returns-clause-symbols
returns-clause-symbols c = in_order c.args.table.now c.args.strings.now (symbol_count c.args.table.now) _
    c.in_ok-symbols.ensures _ c.sort_unstable_by_key.ensures.permutation

pub returns-clause-sorted : goal.returns-clause-sorted
returns-clause-sorted c = IsNonDecreasingBy-from_sort_by_key (λ s. s.rank) _ c.sort_unstable_by_key.ensures.sorted
    (λ a r q k. search rules)
