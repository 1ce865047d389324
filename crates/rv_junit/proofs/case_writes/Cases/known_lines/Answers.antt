use Rattle.std.proofs.Common.{◌≡◌, ◌∙◌, None, Some, arith, get_or}
use Rattle.std.proofs.lemmas.List.{get_or_default}
use Rattle.rv_junit.proofs.case_writes.Cases.known_lines.Goals as goal

pub returns-in-Some : goal.returns-in-Some
returns-in-Some g c = λ any.
    let texts = c.args.self.now.texts.now in
    let past = c.if-number-self.false in
    let here : get_or texts c.args.number None ≡ Some c.in-Some.lines =
    get_or_default texts c.args.number None c.index-self-number.result (omega (arith, past)) ∙ c.in-Some.is in
    c.as_slice.ensures.value ∙ (rw here at (c.requires.known c.args.number any c.requires.number))
