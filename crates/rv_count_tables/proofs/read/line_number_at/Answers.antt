-- Each line feed is one more.
use Rattle.std.proofs.Common.{get_or, arith}
use Rattle.rv_count_tables.proofs.ReadTable.{feeds_more, one_feed, no_feed}
use Rattle.rv_count_tables.proofs.read.line_number_at.Goals.{then-b-eq10, else-b-eq10}
use Rattle.rv_count_tables.proofs.read.line_number_at.Goals as goal

pub loop-b-preserved : goal.loop-b-preserved
loop-b-preserved c =
    let front = c.leading_bytes-earlier.result.now in
    let i = c.loop-b.b-index in
    let inv = c.loop-b.invariant in
    let more = feeds_more front i (omega arith) in
    elim c.if-b-eq10.branch [
      | then-b-eq10 w ↦
          let one = one_feed (get_or front i 0) (omega arith) in
          record { feeds = omega (arith, more, one, inv); few = omega (arith, inv) }
      | else-b-eq10 w ↦
          let none = no_feed (get_or front i 0) (omega arith) in
          record { feeds = omega (arith, more, none, inv); few = omega (arith, inv) }
    ]
