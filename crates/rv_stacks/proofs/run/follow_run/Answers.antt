-- From block to block, and from step to step.
use Rattle.std.proofs.Common.{◌≡◌, ◌+◌, ◌-◌, ℕ, List, [], sym, subst, arith}
use Rattle.rv_calls.specs.declared.frames.Frame.{Frame}
use Rattle.rv_counting.proofs.Public.{counted_all}
use Rattle.rv_counting.specs.Counters.{IsCounting}
use Rattle.rv_counting.specs.Machine.{state_of}
use Rattle.rv_stacks.specs.Stacks.{function_at}
use Rattle.rv_stacks.specs.StackSteps.{HasEnteredFirst, AreStacksSoFar}
use Rattle.rv_stacks.proofs.Advancing.{ready_so_far, still_so_far}
use Rattle.rv_stacks.proofs.Counting.{none_so_far, used_up}
use Rattle.rv_stacks.proofs.run.follow_run.Goals as goal

pub steps-init : goal.steps-init
steps-init c =
    let function = function_at c.args.symbols.now.image.now c.args.symbols.now.bytes.now in
    let n = c.args.budget in
    let s = state_of c.args.machine in
    let walk = c.in_ok-stacks.stacks.walk in
    let none : n - n ≡ 0 = omega arith in
    let first = subst (λ (a : ℕ). HasEnteredFirst (function a) walk) c.pc.ensures c.in_ok-stacks.ensures.walk in record {
      within = omega arith;
      counting = subst (λ (k : ℕ). IsCounting n k s s c.in_ok-counter.counter) (sym none) (c.in_ok-counter.ensures.counting n s);
      cache = c.in_ok-stacks.ensures.cache;
      so_far = subst (λ (fs : List Frame). AreStacksSoFar function n (n - n) s s fs walk) (sym c.in_ok-stacks.ensures.frames)
          (subst (λ (k : ℕ). AreStacksSoFar function n k s s [] walk) (sym none) (none_so_far function n s walk first));
    }

pub steps-preserved-then-block-eq0 : goal.steps-preserved-then-block-eq0
steps-preserved-then-block-eq0 c =
    let function = function_at c.args.symbols.now.image.now c.args.symbols.now.bytes.now in
    let n = c.args.budget in
    let remaining = c.steps.remaining in
    let start = state_of c.args.machine in
    let t = state_of c.step.new.machine in
    let w = c.steps.invariant.within in
    let some = c.steps-test.true in
    let here = still_so_far function n (n - remaining) start (state_of c.steps.machine) c.steps.stacks c.straight_block-block.new.self
    c.straight_block-block.ensures.frames c.straight_block-block.ensures.walk c.steps.invariant.so_far in
    let sum : n - remaining + 1 ≡ n - (remaining - 1) = omega (arith, w, some) in record {
      within = omega (arith, w);
      counting = subst (λ (k : ℕ). IsCounting n k start t c.step.new.counter) sum
          (c.in_ok-step.ensures.counts.continues c.if-not-branch.false [] 1 n (n - remaining) start (omega (arith, w, some)) c.steps.invariant.counting);
      cache = c.in_ok-step.ensures.stacks.cache;
      so_far = subst (λ (k : ℕ). AreStacksSoFar function n k start t c.step.new.self.frames.items c.step.new.self.walk) sum
          (c.in_ok-step.ensures.stacks.continues c.if-not-branch.false n (n - remaining) start (omega (arith, w, some)) here);
    }

pub steps-preserved : goal.steps-preserved
steps-preserved c =
    let function = function_at c.args.symbols.now.image.now c.args.symbols.now.bytes.now in
    let n = c.args.budget in
    let remaining = c.steps.remaining in
    let k = c.straight_block-block.result.steps in
    let start = state_of c.args.machine in
    let s = state_of c.steps.machine in
    let t = state_of c.run_block.new.machine in
    let w = c.steps.invariant.within in
    let few = c.straight_block-block.ensures.at_most_max in
    let none = c.if-block-eq0.false in
    let here = still_so_far function n (n - remaining) start s c.steps.stacks c.straight_block-block.new.self
    c.straight_block-block.ensures.frames c.straight_block-block.ensures.walk c.steps.invariant.so_far in
    let advance = c.in_ok-run_block.ensures.stacks function (c.straight_block-block.ensures.same_function (omega (arith, none)))
    (ready_so_far function n (n - remaining) start s c.straight_block-block.new.self c.ranges.budget.fits c.straight_block-block.ensures.cache here) in
    let sum : n - remaining + k ≡ n - (remaining - k) = omega (arith, w, few) in record {
      within = omega (arith, w);
      counting = subst (λ (k : ℕ). IsCounting n k start t c.run_block.new.counter) sum
          (c.in_ok-run_block.ensures.counts.continues c.if-not-branch-2.false [] 1 n (n - remaining) start (omega (arith, w, few)) c.steps.invariant.counting);
      cache = advance.cache;
      so_far = subst (λ (k : ℕ). AreStacksSoFar function n k start t c.run_block.new.self.frames.items c.run_block.new.self.walk) sum
          (advance.continues c.if-not-branch-2.false n (n - remaining) start (omega (arith, w, few)) here);
    }

pub returns-then-not-branch-clause-counts : goal.returns-then-not-branch-clause-counts
returns-then-not-branch-clause-counts c =
    let n = c.args.budget in
    let remaining = c.steps.remaining in
    let w = c.steps.invariant.within in
    let some = c.steps-test.true in
    c.in_ok-step.ensures.counts.ended c.if-not-branch.true [] 1 n (n - remaining) (state_of c.args.machine) (omega (arith, w, some))
    c.steps.invariant.counting

pub returns-then-not-branch-2-clause-counts : goal.returns-then-not-branch-2-clause-counts
returns-then-not-branch-2-clause-counts c =
    let n = c.args.budget in
    let remaining = c.steps.remaining in
    let w = c.steps.invariant.within in
    let few = c.straight_block-block.ensures.at_most_max in
    c.in_ok-run_block.ensures.counts.ended c.if-not-branch-2.true [] 1 n (n - remaining) (state_of c.args.machine) (omega (arith, w, few))
    c.steps.invariant.counting

pub returns-then-not-branch-2-clause-stacks : goal.returns-then-not-branch-2-clause-stacks
returns-then-not-branch-2-clause-stacks c =
    let function = function_at c.args.symbols.now.image.now c.args.symbols.now.bytes.now in
    let n = c.args.budget in
    let remaining = c.steps.remaining in
    let start = state_of c.args.machine in
    let s = state_of c.steps.machine in
    let w = c.steps.invariant.within in
    let few = c.straight_block-block.ensures.at_most_max in
    let none = c.if-block-eq0.false in
    let here = still_so_far function n (n - remaining) start s c.steps.stacks c.straight_block-block.new.self
    c.straight_block-block.ensures.frames c.straight_block-block.ensures.walk c.steps.invariant.so_far in
    let advance = c.in_ok-run_block.ensures.stacks function (c.straight_block-block.ensures.same_function (omega (arith, none)))
    (ready_so_far function n (n - remaining) start s c.straight_block-block.new.self c.ranges.budget.fits c.straight_block-block.ensures.cache here) in
    advance.ended c.if-not-branch-2.true n (n - remaining) start (omega (arith, w, few)) here

pub returns-clause-counts : goal.returns-clause-counts
returns-clause-counts c =
    let n = c.args.budget in
    let remaining = c.steps.remaining in
    let w = c.steps.invariant.within in
    let over = c.steps-test.false in
    counted_all n (n - remaining) (state_of c.args.machine) (state_of c.steps.machine) c.steps.counter (omega (arith, w, over)) c.steps.invariant.counting

pub returns-clause-stacks : goal.returns-clause-stacks
returns-clause-stacks c =
    let function = function_at c.args.symbols.now.image.now c.args.symbols.now.bytes.now in
    let n = c.args.budget in
    let remaining = c.steps.remaining in
    let w = c.steps.invariant.within in
    let over = c.steps-test.false in
    used_up function n (n - remaining) (state_of c.args.machine) (state_of c.steps.machine) c.steps.stacks.frames.items c.steps.stacks.walk
    c.steps.invariant.so_far (omega (arith, w, over))
