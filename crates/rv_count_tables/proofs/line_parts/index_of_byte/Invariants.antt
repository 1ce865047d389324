-- The place in what is ahead, and what was passed.
use Rattle.std.proofs.Common.{◌≡◌, ◌+◌, drop}
use Rattle.rv_count_tables.specs.Lines.{index_of_byte}
use Rattle.rv_count_tables.proofs.line_parts.index_of_byte.Given as goal

abbrev pub invariant-loop-index : goal.invariant-loop-index
invariant-loop-index l = l.index + index_of_byte l.byte (drop l.index l.text) ≡ index_of_byte l.byte l.text
