use Rattle.std.proofs.Common.{◌∙◌, sym, arith}
use Rattle.rv_report.proofs.FieldLoops.{rising_no, rising_on, rising_end}
use Rattle.rv_report.proofs.saved.are_increasing.Goals.{then-number-previous-via-then-number-previous}
use Rattle.rv_report.proofs.saved.are_increasing.Goals.{then-number-previous-via-else-number-previous+then-last-number}
use Rattle.rv_report.proofs.saved.are_increasing.Goals as goal

pub returns-then-number-previous : goal.returns-then-number-previous
returns-then-number-previous c =
    let previous = c.loop-number.previous in
    let i = c.loop-number.number-index in
    elim c.then-number-previous.branch [
      | then-number-previous-via-then-number-previous w ↦
          sym (rising_no previous c.args.last c.args.numbers.now i (omega arith) (λ low high. omega arith))
          ∙ c.loop-number.invariant
      | then-number-previous-via-else-number-previous+then-last-number w ↦
          sym (rising_no previous c.args.last c.args.numbers.now i (omega arith) (λ low high. omega arith))
          ∙ c.loop-number.invariant
    ]

pub loop-number-preserved : goal.loop-number-preserved
loop-number-preserved c =
    sym (rising_on c.loop-number.previous c.args.last c.args.numbers.now c.loop-number.number-index (omega arith)
    (omega arith)
    (omega arith))
    ∙ c.loop-number.invariant

pub returns : goal.returns
returns c =
    sym (rising_end c.loop-number.previous c.args.last c.args.numbers.now c.loop-number.number-index (omega arith))
    ∙ c.loop-number.invariant
