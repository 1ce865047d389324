use Rattle.std.proofs.Common.{ap, arith, refl}
use Rattle.std.proofs.lemmas.Bool.{false≢true}
use Rattle.rv_trace.specs.Machine.{state_of}
use Rattle.rv_trace.specs.Run.{RunResult}
use Rattle.rv_history.proofs.Reaching.{comes, comes_within, ran_there, within_budget}
use Rattle.rv_history.proofs.history.History.seek.Goals as goal

pub returns-then-step-self-clause-is_reached : goal.returns-then-step-self-clause-is_reached
returns-then-step-self-clause-is_reached c =
    let few = within_budget c.self.inside.budget c.self.inside.checkpoints in (
      λ is. absurd (false≢true is),
      λ there. absurd (let within = rw (← c.self.view_is) at there in omega (arith, within, few)),
    )

pub returns-then-at-step-clause-is_reached : goal.returns-then-at-step-clause-is_reached
returns-then-at-step-clause-is_reached c = (
  λ is. absurd (false≢true is),
  λ there. absurd (
      let within = rw (← c.self.view_is) at there in
      let full = comes c.self.inside.budget c.args.step c.self.inside.checkpoints within in
      let count = ap (λ (r : RunResult). r.steps) c.in_ok-at.ensures.run in
      omega (arith, full, count)),
)

pub invariant_of-self-2 : goal.invariant_of-self-2
invariant_of-self-2 c = rw c.reach.ensures.run_unchanged (
  ran_there c.self.inside.checkpoints (state_of c.in_ok-at.at.machine) c.args.step c.in_ok-at.at.step _ c.in_ok-at.ensures.run (omega arith),
  omega arith,
)

pub returns-clause-is_reached : goal.returns-clause-is_reached
returns-clause-is_reached c =
    let reached = ran_there c.self.inside.checkpoints (state_of c.in_ok-at.at.machine) c.args.step c.in_ok-at.at.step _
    c.in_ok-at.ensures.run (omega arith) in (
      λ is. rw (← c.self.view_is) (comes_within c.self.inside.budget c.args.step c.self.inside.checkpoints reached.completed (omega arith)),
      λ there. refl,
    )
