use Rattle.std.proofs.Common.{◌∙◌, sym, arith}
use Rattle.rv_expect.proofs.Differences.{at_end, differs_here, goes_on, one_ends, other_ends}
use Rattle.rv_expect.proofs.difference.first_word_difference.Goals as goal

pub returns-then-place-expected : goal.returns-then-place-expected
returns-then-place-expected c =
    let place = c.loop-place.place in
    sym (other_ends place c.args.actual.now c.args.expected.now place (omega arith) (omega arith))
    ∙ c.loop-place.invariant.same

pub returns-then-word-expected : goal.returns-then-word-expected
returns-then-word-expected c =
    let place = c.loop-place.place in
    sym (differs_here place c.args.actual.now c.args.expected.now place (omega arith) (omega arith)
    c.if-word-expected.true) ∙ c.loop-place.invariant.same

pub loop-place-preserved : goal.loop-place-preserved
loop-place-preserved c =
    let place = c.loop-place.place in
    record {
      same = sym (goes_on place c.args.actual.now c.args.expected.now place (omega arith) (omega arith)
          c.if-word-expected.false) ∙ c.loop-place.invariant.same;
      within = omega arith;
    }

pub returns-then-actual-expected : goal.returns-then-actual-expected
returns-then-actual-expected c =
    let place = c.loop-place.place in
    sym (at_end place c.args.actual.now c.args.expected.now place (omega arith) (omega arith))
    ∙ c.loop-place.invariant.same

pub returns-else-actual-expected : goal.returns-else-actual-expected
returns-else-actual-expected c =
    let place = c.loop-place.place in
    sym (one_ends place c.args.actual.now c.args.expected.now place (omega arith) (omega arith))
    ∙ c.loop-place.invariant.same
