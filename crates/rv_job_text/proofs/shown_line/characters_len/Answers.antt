use Rattle.std.proofs.Common.{◌≡◌, ◌∙◌, sym, true, false, drop, get_or, arith}
use Rattle.std.proofs.lemmas.List.{at_drop_all}
use Rattle.rv_job_text.specs.ConsoleLines.{begins_character, characters_len}
use Rattle.rv_job_text.proofs.DifferingLines.{characters_go_on, characters_next, characters_stop}
use Rattle.rv_job_text.proofs.shown_line.characters_len.Goals as goal
use Rattle.rv_job_text.proofs.shown_line.characters_len.Goals.{then-begins_character+else-remaining-eq0, else-begins_character}

pub returns-then-remaining-eq0-clause-len : goal.returns-then-remaining-eq0-clause-len
returns-then-remaining-eq0-clause-len c =
    let begins : begins_character (get_or c.args.text.now c.loop-offset.offset 0) ≡ true =
    sym c.begins_character.ensures ∙ c.if-begins_character.true in
    let none : characters_len c.loop-offset.remaining (drop c.loop-offset.offset c.args.text.now) ≡ 0 =
    rw c.if-remaining-eq0.true (characters_stop c.args.text.now c.loop-offset.offset (omega arith) begins) in
    let kept = c.loop-offset.invariant in
    omega arith

pub loop-offset-preserved : goal.loop-offset-preserved
loop-offset-preserved c =
    let text = c.args.text.now in
    let offset = c.loop-offset.offset in
    let kept = c.loop-offset.invariant in
    elim c.if-begins_character.branch [
      | then-begins_character+else-remaining-eq0 w ↦
          let begins : begins_character (get_or text offset 0) ≡ true =
          sym c.begins_character.ensures ∙ w.if-begins_character.true in
          let next = characters_next c.loop-offset.remaining text offset (omega arith) (omega arith) begins in
          rw w.remaining-is (omega arith)
      | else-begins_character w ↦
          let inside : begins_character (get_or text offset 0) ≡ false =
          sym c.begins_character.ensures ∙ w.if-begins_character.false in
          let next = characters_go_on c.loop-offset.remaining text offset (omega arith) inside in
          rw w.remaining-is (omega arith)
    ]

pub returns-clause-len : goal.returns-clause-len
unfolding characters_len
returns-clause-len c =
    let text = c.args.text.now in
    let none : characters_len c.loop-offset.remaining (drop c.loop-offset.offset text) ≡ 0 =
    at_drop_all (characters_len c.loop-offset.remaining) text c.loop-offset.offset (omega arith) in
    let kept = c.loop-offset.invariant in
    omega arith
