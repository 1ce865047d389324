use Rattle.std.proofs.Common.{◌≡◌, ◌∙◌, ◌-◌, ◌+◌, ◌++◌, [], ◌∷◌, ap, arith, inl, inr}
use Rattle.rv_machine.specs.Machine.{state_of}
use Rattle.rv_trace.specs.Steps.{steps_from}
use Rattle.rv_trace.proofs.Runs.{all_lines, arrived, more_lines, nearer}
use Rattle.rv_trace.proofs.trace.trace_next_steps.Goals as goal
use Rattle.rv_trace.proofs.trace.trace_next_steps.Goals.{else-loop-test, then-loop-test+in_default}

pub loop-preserved : goal.loop-preserved
loop-preserved c =
    let s = state_of c.loop.machine in
    let t = state_of c.trace_next_step.new.machine in
    record {
      shown =
          ap (λ ls. ls ++ steps_from (c.args.count - (c.loop.counter + 1)) t)
          (c.in_ok-push.ensures.items ∙ ap (λ step. c.loop.steps.items ++ step ∷ []) c.in-Some.ensures.1)
          ∙ more_lines c.args.count c.loop.counter s t c.loop.steps.items _ c.loop-test.true c.in-Some.ensures.0
          c.loop.invariant.shown;
      reached = nearer c.args.count c.loop.counter s t _ c.loop-test.true c.in-Some.ensures.0
          c.loop.invariant.reached;
    }

pub returns-clause-steps : goal.returns-clause-steps
returns-clause-steps c =
    let s = state_of c.loop.machine in
    elim c.loop-test.branch [
      | else-loop-test w ↦ let none : c.args.count - c.loop.counter ≡ 0 = omega arith in
          all_lines (c.args.count - c.loop.counter) s c.loop.steps.items _ (inl none) c.loop.invariant.shown
      | then-loop-test+in_default w ↦
          all_lines (c.args.count - c.loop.counter) s c.loop.steps.items _ (inr w.in_default.ensures.0)
          c.loop.invariant.shown
    ]

pub returns-clause-state : goal.returns-clause-state
returns-clause-state c =
    let s = state_of c.loop.machine in
    elim c.loop-test.branch [
      | else-loop-test w ↦ let none : c.args.count - c.loop.counter ≡ 0 = omega arith in
          ap state_of w.machine-is
          ∙ arrived (c.args.count - c.loop.counter) s _ (inl none) c.loop.invariant.reached
      | then-loop-test+in_default w ↦
          ap state_of w.machine-is ∙ w.in_default.ensures.1
          ∙ arrived (c.args.count - c.loop.counter) s _ (inr w.in_default.ensures.0) c.loop.invariant.reached
    ]
