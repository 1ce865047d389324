use Rattle.std.proofs.Common.{arith, eq-eqb, length, sym}
use Rattle.std.proofs.lemmas.List.Sums.{position_or_len_is}
use Rattle.rv_job_text.specs.ConsoleTail.{is_line_feed}
use Rattle.rv_job_text.proofs.complete_lines.first_line_feed.Goals as goal

pub returns-then-byte-eq10-clause-offset : goal.returns-then-byte-eq10-clause-offset
returns-then-byte-eq10-clause-offset c =
    sym (position_or_len_is is_line_feed c.args.text.now c.loop-offset.offset 0 (omega arith) c.loop-offset.invariant
    (λ _. eq-eqb _ 10 c.if-byte-eq10.true))

pub returns-clause-offset : goal.returns-clause-offset
returns-clause-offset c =
    sym (position_or_len_is is_line_feed c.args.text.now (length c.args.text.now) 0 (omega arith)
    (λ k below. c.loop-offset.invariant k (omega arith))
    (λ h. absurd (omega arith)))
