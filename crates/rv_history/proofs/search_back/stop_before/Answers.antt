use Rattle.std.proofs.Common.{ℕ, ◌≡◌, arith, subst}
use Rattle.rv_trace.proofs.Public.{completes}
use Rattle.rv_history.specs.LastStop.{HaveNoStops}
use Rattle.rv_history.proofs.Backward.{begins_over, last_before, quiet_joined}
use Rattle.rv_history.proofs.search_back.stop_before.Goals as goal

pub search_part-requires-clause-reached : goal.search_part-requires-clause-reached
search_part-requires-clause-reached g c =
    completes c.args.from c.loop-end.end c.args.checkpoints.now (let order = c.loop-end.invariant.order in omega (arith, c.requires))

pub returns-in-Some-last-clause-stop : goal.returns-in-Some-last-clause-stop
returns-in-Some-last-clause-stop g c = λ budget within.
    let order = c.loop-end.invariant.order in
    let part = rw c.in-Some.is at c.in_ok-part.ensures.part in
    let outcome = rw c.in-Some-last.is at part.last budget (omega (arith, order, within)) in
    last_before c.args.stops.now budget c.loop-end.end c.args.from c.args.checkpoints.now c.in-Some-last.last order
    (c.loop-end.invariant.quiet budget within) outcome.1 outcome.0

pub returns-in-Some-last-clause-interrupted : goal.returns-in-Some-last-clause-interrupted
returns-in-Some-last-clause-interrupted g c = λ is.
    let order = c.loop-end.invariant.order in
    let part = rw c.in-Some.is at c.in_ok-part.ensures.part in
    let outcome = rw c.in-Some-last.is at part.last c.args.from order in
    absurd (outcome.1 is)

pub loop-end-preserved : goal.loop-end-preserved
loop-end-preserved g c =
    let order = c.loop-end.invariant.order in
    let part = rw c.in-Some.is at c.in_ok-part.ensures.part in
    let before = part.begin in record {
      order = omega (arith, order, before);
      quiet = λ budget within.
          let outcome = rw c.in_default-last.is at part.last budget (omega (arith, order, within)) in
          quiet_joined c.args.stops.now budget c.in-Some.part.begin c.loop-end.end c.args.from c.args.checkpoints.now
          outcome (c.loop-end.invariant.quiet budget within);
    }

pub returns-clause-stop : goal.returns-clause-stop
returns-clause-stop g c = λ budget within.
    let none : c.loop-end.end ≡ 0 = omega arith in
    begins_over c.args.stops.now budget c.args.from c.args.checkpoints.now
    (subst (λ (k : ℕ). HaveNoStops c.args.stops.now budget c.args.checkpoints.now k c.args.from) none
    (c.loop-end.invariant.quiet budget within))
