use Rattle.std.proofs.Common.{◌∙◌, sym, arith}
use Rattle.rv_report.proofs.FieldLoops.{stepped_no, stepped_on, stepped_end}
use Rattle.rv_report.proofs.saved.are_evenly_spaced.Goals.{then-number-next-via-then-number-next}
use Rattle.rv_report.proofs.saved.are_evenly_spaced.Goals.{then-number-next-via-else-number-next+then-limit-number}
use Rattle.rv_report.proofs.saved.are_evenly_spaced.Goals as goal

pub returns-then-number-next : goal.returns-then-number-next
returns-then-number-next c =
    let next = c.loop-number.next in
    let i = c.loop-number.number-index in
    elim c.then-number-next.branch [
      | then-number-next-via-then-number-next w ↦
          sym (stepped_no next c.args.step c.args.limit c.args.numbers.now i (omega arith)
          (λ same high. w.if-number-next.true same))
          ∙ c.loop-number.invariant.rest
      | then-number-next-via-else-number-next+then-limit-number w ↦
          sym (stepped_no next c.args.step c.args.limit c.args.numbers.now i (omega arith) (λ same high. omega arith))
          ∙ c.loop-number.invariant.rest
    ]

pub loop-number-preserved : goal.loop-number-preserved
loop-number-preserved c = record {
  rest = sym (stepped_on c.loop-number.next c.args.step c.args.limit c.args.numbers.now c.loop-number.number-index
      (omega arith)
      (omega arith) (omega arith))
      ∙ c.loop-number.invariant.rest;
  small = omega arith;
}

pub returns : goal.returns
returns c =
    sym (stepped_end c.loop-number.next c.args.step c.args.limit c.args.numbers.now c.loop-number.number-index
    (omega arith))
    ∙ c.loop-number.invariant.rest
