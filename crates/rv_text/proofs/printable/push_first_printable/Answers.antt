use Rattle.std.proofs.Common.{◌≡◌, ◌∙◌, ◌==◌, arith, false, length-drop, ne_eqb, sym}
use Rattle.rv_text.specs.Printable.{plain_first_len}
use Rattle.rv_text.proofs.printable.push_first_printable.Goals as goal

pub returns-then-plain-eq0 : goal.returns-then-plain-eq0
returns-then-plain-eq0 c =
    let none : plain_first_len c.args.text.now ≡ 0 = sym c.plain_first_len-plain.ensures.value ∙ c.if-plain-eq0.true in
    record {
      text = rw none c.in_ok-push_escape.ensures;
      rest = rw none c.tail_from.ensures;
      shorter = rw c.tail_from.ensures (simp length-drop (omega arith));
    }

pub returns : goal.returns
returns c =
    let some : (c.plain_first_len-plain.result == 0) ≡ false = ne_eqb c.plain_first_len-plain.result 0 c.if-plain-eq0.false in
    record {
      text = rw (← c.plain_first_len-plain.ensures.value, some) c.in_ok-extend_from_slice.ensures.items;
      rest = rw (← c.plain_first_len-plain.ensures.value, some) c.tail_from-2.ensures;
      shorter = rw c.tail_from-2.ensures (simp length-drop (omega arith));
    }
