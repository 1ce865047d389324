use Rattle.std.proofs.Common.{◌∙◌, arith, length, sym}
use Rattle.std.proofs.lemmas.List.Sums.{position_or_len_is}
use Rattle.rv_job_text.specs.ConsoleLines.{begins_character}
use Rattle.rv_job_text.proofs.shown_line.first_character_begin.Goals as goal

pub returns-then-begins_character-clause-offset : goal.returns-then-begins_character-clause-offset
returns-then-begins_character-clause-offset c =
    sym (position_or_len_is begins_character c.args.text.now c.loop-offset.offset 0 (omega arith) c.loop-offset.invariant
    (λ _. sym c.begins_character.ensures ∙ c.if-begins_character.true))

pub returns-clause-offset : goal.returns-clause-offset
returns-clause-offset c =
    sym (position_or_len_is begins_character c.args.text.now (length c.args.text.now) 0 (omega arith)
    (λ k below. c.loop-offset.invariant k (omega arith))
    (λ h. absurd (omega arith)))
