use Rattle.std.proofs.Common.{◌≡◌, ◌-◌, arith, append_assoc, append-nil, length}
use Rattle.std.proofs.lemmas.Grind.{common_steps}
use Rattle.rv_text.specs.Printable.{after_first_printable, first_width, first_printable, printable_within}
use Rattle.rv_text.proofs.Pieces.{printable_within-empty, printable_within-front, printable_within-full}
use Rattle.rv_text.proofs.printable.push_printable_within.Goals as goal

pub returns-then-room-width : goal.returns-then-room-width
returns-then-room-width c =
    cc (
      printable_within-full c.loop-rest.room c.loop-rest.rest.now (omega arith),
      append-nil c.loop-rest.bytes.items,
    )

pub loop-rest-preserved : goal.loop-rest-preserved
loop-rest-preserved c =
    let text = c.loop-rest.rest.now in
    let room = c.loop-rest.room in
    cc (
      printable_within-front room text (omega (arith, c.in_ok-rest.ensures.shorter)) (omega arith),
      c.loop-rest.invariant,
      c.in_ok-rest.ensures.text,
      c.in_ok-rest.ensures.rest,
      append_assoc c.loop-rest.bytes.items (first_printable text)
          (printable_within (room - first_width text) 0 (after_first_printable text)),
    )

pub returns : goal.returns
returns c =
    let empty : length c.loop-rest.rest.now ≡ 0 = grind (arith, common_steps) in
    cc (printable_within-empty c.loop-rest.room c.loop-rest.rest.now empty, append-nil c.loop-rest.bytes.items)
