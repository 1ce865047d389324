use Rattle.std.proofs.Common.{◌≡◌, ◌≤◌, None, length, drop}
use Rattle.rv_elf.specs.Sections.{text_before_zero}
use Rattle.rv_elf.proofs.symbol_search.names_end.Given as goal

abbrev pub invariant-loop-end : goal.invariant-loop-end
invariant-loop-end l = (l.end ≤ length l.strings) × (text_before_zero (drop l.end l.strings) ≡ None)

abbrev pub decreases-loop-end : goal.decreases-loop-end
decreases-loop-end l = l.end
