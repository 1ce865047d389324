-- Each byte decides, or leaves it to those behind.
use Rattle.std.proofs.Common.{◌∙◌, sym, arith, add-one}
use Rattle.rv_count_tables.proofs.ByteOrder.{behind_end, before_none, less, more, same}
use Rattle.rv_count_tables.proofs.order.is_before.Goals.{then-at-a-via-then-at-a, then-at-a-via-else-at-a+then-a-at}
use Rattle.rv_count_tables.proofs.order.is_before.Goals as goal

pub returns-then-at-a : goal.returns-then-at-a
returns-then-at-a c =
    let a = c.args.a.now in
    let b = c.args.b.now in
    let at = c.loop-at.at in
    let inv = c.loop-at.invariant in
    elim c.then-at-a.branch [
      | then-at-a-via-then-at-a w ↦ sym (behind_end a b at (omega arith) (omega arith)) ∙ inv.ahead
      | then-at-a-via-else-at-a+then-a-at w ↦ sym (less a b at (omega arith) (omega arith) (omega arith)) ∙ inv.ahead
    ]

pub returns-then-other-a : goal.returns-then-other-a
returns-then-other-a c =
    let inv = c.loop-at.invariant in
    sym (more c.args.a.now c.args.b.now c.loop-at.at (omega arith) (omega arith) (omega arith)) ∙ inv.ahead

pub loop-at-preserved : goal.loop-at-preserved
loop-at-preserved c =
    let inv = c.loop-at.invariant in record {
      within = omega arith;
      ahead = rw add-one (sym (same c.args.a.now c.args.b.now c.loop-at.at (omega arith) (omega arith) (omega arith))
          ∙ inv.ahead);
    }

pub returns : goal.returns
returns c =
    sym (before_none c.args.a.now c.args.b.now c.loop-at.at (omega arith)) ∙ c.loop-at.invariant.ahead
