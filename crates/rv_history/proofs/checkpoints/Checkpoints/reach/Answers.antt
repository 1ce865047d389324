use Rattle.std.proofs.Common.{◌∙◌, ap, arith}
use Rattle.rv_trace.specs.Machine.{state_of}
use Rattle.rv_history.specs.StoredStates.{IsAt}
use Rattle.rv_history.proofs.Reaching.{ran_to, within_budget}
use Rattle.rv_history.proofs.checkpoints.Checkpoints.reach.Goals as goal
use Rattle.rv_history.proofs.checkpoints.Checkpoints.reach.Goals.{in-Some+then-at-next, in_default}

pub store-requires : goal.store-requires
store-requires c = rw c.loop-next.invariant.same
    (ran_to c.args.self.now (state_of c.run_to_step.new.self.machine) c.in-Some.next c.run_to_step.new.self.step c.run_to_step.result
    (c.run_to_step.ensures.run c.args.self.now c.loop-next.invariant.there))

pub loop-next-preserved : goal.loop-next-preserved
loop-next-preserved c =
    let ran = c.run_to_step.ensures.run c.args.self.now c.loop-next.invariant.there in
    let count = ap (λ r. r.steps) ran in
    let few = within_budget c.in-Some.next c.args.self.now in
    let near = c.in-Some.ensures.1 in record {
      order = omega (arith, count, few, near);
      there = ran_to c.args.self.now (state_of c.run_to_step.new.self.machine) c.in-Some.next c.run_to_step.new.self.step c.run_to_step.result ran;
      same = c.in_ok-store.ensures ∙ c.loop-next.invariant.same;
    }

pub returns-clause-run : goal.returns-clause-run
returns-clause-run c =
    let start = c.args.self.now in
    let at = c.match-next_step_to_store.at in
    let there : IsAt start at = elim c.match-next_step_to_store.branch [
      | in-Some+then-at-next w ↦ rw w.at-is (ran_to start (state_of w.run_to_step.new.self.machine) w.in-Some.next w.run_to_step.new.self.step
          w.run_to_step.result (w.run_to_step.ensures.run start c.loop-next.invariant.there))
      | in_default w ↦ rw w.at-is c.loop-next.invariant.there
    ] in
    c.run_to_step-ending.ensures.run start there
