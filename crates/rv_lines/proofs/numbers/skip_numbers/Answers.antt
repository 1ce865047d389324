use Rattle.std.proofs.lemmas.Result.{err_from_is_err_and}
use Rattle.rv_lines.specs.Numbers.{skip_numbers}
use Rattle.rv_lines.proofs.Loops.{skip_on, skip_ends, skip_done}
use Rattle.rv_lines.proofs.numbers.skip_numbers.Goals as goal

pub returns-in_err-rest : goal.returns-in_err-rest
returns-in_err-rest c =
    let p = err_from_is_err_and c.from_residual.result c.from_residual.ensures.1 in
    rw (p.1, p.2) (skip_ends c.args.cut c.in_err-rest.field-0.0 c.args.count c.loop.counter c.loop.rest.now
    (skip_numbers c.args.cut c.args.count c.args.bytes.now) c.loop-test.true c.in_err-rest.ensures c.loop.invariant)

pub loop-preserved : goal.loop-preserved
loop-preserved c = skip_on c.args.cut c.args.count c.loop.counter c.loop.rest.now c.in_ok-rest.rest.now
    (skip_numbers c.args.cut c.args.count c.args.bytes.now) c.loop-test.true c.in_ok-rest.ensures c.loop.invariant

pub returns : goal.returns
returns c = skip_done c.args.cut c.args.count c.loop.counter c.loop.rest.now
    (skip_numbers c.args.cut c.args.count c.args.bytes.now) c.loop-test.false c.loop.invariant
