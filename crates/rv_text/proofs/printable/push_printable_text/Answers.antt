use Rattle.std.proofs.Common.{◌≡◌, arith, append_assoc, append-nil, length}
use Rattle.std.proofs.lemmas.Grind.{common_steps}
use Rattle.rv_text.specs.Printable.{after_first_printable, first_printable, printable_from}
use Rattle.rv_text.proofs.Pieces.{shown-empty, shown-front}
use Rattle.rv_text.proofs.printable.push_printable_text.Goals as goal

pub loop-rest-preserved : goal.loop-rest-preserved
loop-rest-preserved c =
    let text = c.loop-rest.rest.now in
    cc (
      shown-front text (omega (arith, c.in_ok-rest.ensures.shorter)),
      c.loop-rest.invariant,
      c.in_ok-rest.ensures.text,
      c.in_ok-rest.ensures.rest,
      append_assoc c.loop-rest.bytes.items (first_printable text) (printable_from 0 (after_first_printable text)),
    )

pub returns : goal.returns
returns c =
    let empty : length c.loop-rest.rest.now ≡ 0 = grind (arith, common_steps) in
    cc (shown-empty c.loop-rest.rest.now empty, append-nil c.loop-rest.bytes.items)
