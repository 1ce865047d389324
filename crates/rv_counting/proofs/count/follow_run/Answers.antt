-- From block to block.
use Rattle.std.proofs.Common.{◌≡◌, ◌+◌, ◌-◌, Ok, ap, sym, subst, arith}
use Rattle.std.proofs.lemmas.Bool.{not-false, not-true}
use Rattle.rv_trace.specs.IntermediateState.{IsIntermediateState}
use Rattle.rv_trace.specs.Machine.{state_of}
use Rattle.rv_trace.specs.Run.{RunResult, run_of}
use Rattle.rv_counting.specs.Counters.{counts_of, IsCountingFrom}
use Rattle.rv_counting.proofs.Counted.{none_so_far}
use Rattle.rv_counting.proofs.Counters.{counted_all_on, equal_tests, ready_on, unequal_tests}
use Rattle.rv_counting.proofs.PartialRuns.{block_more, block_part, first_part, same_part, step_more}
use Rattle.rv_counting.proofs.Runs.{steps_within}
use Rattle.rv_counting.proofs.count.follow_run.Goals as goal

pub steps-init : goal.steps-init
steps-init c =
    let n = c.args.budget in
    let old = c.args.counter.now in
    let s = state_of c.args.machine in
    let none : n - n ≡ 0 = omega arith in record {
      within = omega arith;
      counting = subst (λ k. IsCountingFrom (counts_of old) old.cache.generation n k s s old) (sym none) (
          record {
            so_far = none_so_far (counts_of old) n s c.requires.consistent;
            indexed = c.requires.indexed;
            valid = c.requires.valid;
            generations = omega arith;
          }
          );
      run = first_part n (n - n) s none;
    }

pub find_block-block-requires : goal.find_block-block-requires
find_block-block-requires c =
    let n = c.args.budget in
    let old = c.args.counter.now in
    ready_on (counts_of old) old.cache.generation n (n - c.steps.remaining) (state_of c.args.machine) (state_of c.steps.machine) c.steps.counter
    c.ranges.budget.fits c.requires.few c.requires.generations c.steps.invariant.counting

pub step_uncached-requires : goal.step_uncached-requires
step_uncached-requires c =
    let n = c.args.budget in
    let old = c.args.counter.now in
    ready_on (counts_of old) old.cache.generation n (n - c.steps.remaining) (state_of c.args.machine) (state_of c.steps.machine) c.steps.counter
    c.ranges.budget.fits c.requires.few c.requires.generations c.steps.invariant.counting

pub run_block-requires-clause-ready : goal.run_block-requires-clause-ready
run_block-requires-clause-ready c =
    let n = c.args.budget in
    let old = c.args.counter.now in
    ready_on (counts_of old) old.cache.generation n (n - c.steps.remaining) (state_of c.args.machine) (state_of c.steps.machine) c.steps.counter
    c.ranges.budget.fits c.requires.few c.requires.generations c.steps.invariant.counting

pub steps-preserved-then-block-eq0 : goal.steps-preserved-then-block-eq0
steps-preserved-then-block-eq0 c =
    let n = c.args.budget in
    let old = c.args.counter.now in
    let g = old.cache.generation in
    let remaining = c.steps.remaining in
    let start = state_of c.args.machine in
    let w = c.steps.invariant.within in
    let some = c.steps-test.true in
    let sum : n - remaining + 1 ≡ n - (remaining - 1) = omega (arith, w, some) in record {
      within = omega (arith, w);
      counting = subst (λ k. IsCountingFrom (counts_of old) g n k start (state_of c.step_uncached.new.machine) c.step_uncached.new.self) sum
          (c.in_ok-step.ensures.counted.continues (not-false c.in_ok-step.step.completed c.if-not-step.false) (counts_of old) g n (n - remaining) start (omega (arith, w, some))
          c.steps.invariant.counting);
      run = subst (λ k. IsIntermediateState (Ok start) n k (state_of c.step_uncached.new.machine)) sum
          (step_more n (n - remaining) (Ok start) (state_of c.steps.machine) (state_of c.step_uncached.new.machine) c.in_ok-step.step
          c.steps.invariant.run (omega (arith, w, some)) c.in_ok-step.ensures.step (not-false c.in_ok-step.step.completed c.if-not-step.false));
    }

pub steps-preserved : goal.steps-preserved
steps-preserved c =
    let n = c.args.budget in
    let old = c.args.counter.now in
    let g = old.cache.generation in
    let remaining = c.steps.remaining in
    let k = c.find_block-block.result.steps in
    let start = state_of c.args.machine in
    let w = c.steps.invariant.within in
    let few = c.find_block-block.ensures.few in
    let sum : n - remaining + k ≡ n - (remaining - k) = omega (arith, w, few) in record {
      within = omega (arith, w);
      counting = subst (λ k. IsCountingFrom (counts_of old) g n k start (state_of c.run_block.new.machine) c.run_block.new.self) sum
          (c.in_ok-outcome.ensures.counted.continues (equal_tests _ _ c.if-outcome-block.false) (counts_of old) g n (n - remaining) start
          (omega (arith, w, few)) c.steps.invariant.counting);
      run = subst (λ k. IsIntermediateState (Ok start) n k (state_of c.run_block.new.machine)) sum
          (block_more n (n - remaining) k (Ok start) (state_of c.steps.machine) (state_of c.run_block.new.machine) c.in_ok-outcome.outcome
          c.steps.invariant.run (omega (arith, w, few)) c.in_ok-outcome.ensures.ran c.if-outcome-block.false);
    }

pub returns-then-not-step-clause-counted : goal.returns-then-not-step-clause-counted
returns-then-not-step-clause-counted c =
    let n = c.args.budget in
    let old = c.args.counter.now in
    let remaining = c.steps.remaining in
    let w = c.steps.invariant.within in
    let some = c.steps-test.true in
    c.in_ok-step.ensures.counted.ended (not-true c.in_ok-step.step.completed c.if-not-step.true) (counts_of old) old.cache.generation n (n - remaining)
    (state_of c.args.machine) (omega (arith, w, some)) c.steps.invariant.counting

pub returns-then-outcome-block-clause-counted : goal.returns-then-outcome-block-clause-counted
returns-then-outcome-block-clause-counted c =
    let n = c.args.budget in
    let old = c.args.counter.now in
    let remaining = c.steps.remaining in
    let w = c.steps.invariant.within in
    let few = c.find_block-block.ensures.few in
    c.in_ok-outcome.ensures.counted.ended (unequal_tests _ _ c.if-outcome-block.true) (counts_of old) old.cache.generation n (n - remaining)
    (state_of c.args.machine) (omega (arith, w, few)) c.steps.invariant.counting

pub returns-clause-counted : goal.returns-clause-counted
returns-clause-counted c =
    let n = c.args.budget in
    let old = c.args.counter.now in
    let remaining = c.steps.remaining in
    let w = c.steps.invariant.within in
    let over = c.steps-test.false in
    counted_all_on (counts_of old) old.cache.generation n (n - remaining) (state_of c.args.machine) (state_of c.steps.machine) c.steps.counter
    (omega (arith, w, over)) c.steps.invariant.counting

pub returns-then-not-step-clause-run : goal.returns-then-not-step-clause-run
returns-then-not-step-clause-run c =
    same_part c.args.budget (c.args.budget - c.steps.remaining) (Ok (state_of c.args.machine)) (state_of c.steps.machine)
    (state_of c.step_uncached.new.machine) c.in_ok-step.step c.steps.invariant.run c.in_ok-step.ensures.step (not-true c.in_ok-step.step.completed c.if-not-step.true)

pub returns-then-outcome-block-clause-run : goal.returns-then-outcome-block-clause-run
returns-then-outcome-block-clause-run c =
    let n = c.args.budget in
    let remaining = c.steps.remaining in
    let w = c.steps.invariant.within in
    let few = c.find_block-block.ensures.few in
    block_part n (n - remaining) c.find_block-block.result.steps (Ok (state_of c.args.machine)) (state_of c.steps.machine)
    (state_of c.run_block.new.machine) c.in_ok-outcome.outcome c.steps.invariant.run (omega (arith, w, few)) c.in_ok-outcome.ensures.ran

pub returns-clause-run : goal.returns-clause-run
returns-clause-run c =
    let n = c.args.budget in
    let w = c.steps.invariant.within in
    let over = c.steps-test.false in
    subst (λ k. IsIntermediateState (Ok (state_of c.args.machine)) n k (state_of c.steps.machine)) (omega (arith, w, over)) c.steps.invariant.run

pub overflow_add-steps : goal.overflow_add-steps
overflow_add-steps c =
    let k = c.find_block-block.result.steps in
    let s = state_of c.steps.machine in
    let count : (run_of k s).steps ≡ c.in_ok-outcome.outcome.steps = ap (λ (r : RunResult). r.steps) c.in_ok-outcome.ensures.ran in
    let few = steps_within k s in
    let block = c.find_block-block.ensures.few in
    let w = c.steps.invariant.within in
    let fits = c.ranges.budget.fits in
    omega (arith, count, few, block, w, fits)
