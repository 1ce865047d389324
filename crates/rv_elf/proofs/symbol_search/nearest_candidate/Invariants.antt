use Rattle.std.proofs.Common.{◌≡◌, ◌≤◌, ◌*◌}
use Rattle.std.specs.Prelude.{IfSome}
use Rattle.rv_elf.specs.Sections.{symbol_at_offset}
use Rattle.rv_elf.specs.SymbolSearch.{is_candidate}
use Rattle.rv_elf.proofs.Ranking.{nearest_below}
use Rattle.rv_elf.proofs.symbol_search.nearest_candidate.Given as goal

abbrev pub invariant-loop-k : goal.invariant-loop-k
invariant-loop-k l = record {
  best_so_far : l.best ≡ nearest_below (is_candidate l.kind l.segments l.strings l.addr)
      (λ j. symbol_at_offset l.table (16 * j)) l.k;
  below : IfSome l.best (λ s. s.value ≤ l.addr);
}
