-- Each byte is the one, or is passed.
use Rattle.std.proofs.Common.{arith}
use Rattle.rv_count_tables.proofs.LineLoops.{place_here, place_later, place_end}
use Rattle.rv_count_tables.proofs.line_parts.index_of_byte.Goals as goal

pub returns-then-b-byte-clause-index : goal.returns-then-b-byte-clause-index
returns-then-b-byte-clause-index c = omega (
  arith,
  place_here c.args.byte c.args.text.now c.loop-index.index
      (omega arith) (omega arith),
)

pub loop-index-preserved : goal.loop-index-preserved
loop-index-preserved c = omega (
  arith,
  place_later c.args.byte c.args.text.now c.loop-index.index (omega arith)
      c.if-b-byte.false,
)

pub returns-clause-index : goal.returns-clause-index
returns-clause-index c = omega (arith, place_end c.args.byte c.args.text.now c.loop-index.index (omega arith))
