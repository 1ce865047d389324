use Rattle.std.proofs.Common.{arith}
use Rattle.rv_report.proofs.Loops.{count_no, count_on, count_end}
use Rattle.rv_report.proofs.lenient_reader.increasing_count.Goals as goal

pub returns-then-number-before : goal.returns-then-number-before
returns-then-number-before c =
    let stop = count_no c.loop-at.before c.args.numbers.now c.loop-at.at in
    omega (arith, stop (omega arith) (λ low high. omega arith))

pub returns-then-number-gt-MAX_JOBS : goal.returns-then-number-gt-MAX_JOBS
returns-then-number-gt-MAX_JOBS c =
    let stop = count_no c.loop-at.before c.args.numbers.now c.loop-at.at in
    omega (arith, stop (omega arith) (λ low high. omega arith))

pub loop-at-preserved : goal.loop-at-preserved
loop-at-preserved c =
    let on = count_on c.loop-at.before c.args.numbers.now c.loop-at.at in
    omega (arith, on (omega arith) (omega arith) (omega arith))

pub returns : goal.returns
returns c = omega (arith, count_end c.loop-at.before c.args.numbers.now c.loop-at.at (omega arith))
