use Rattle.std.proofs.Common.{◌∙◌, arith}
use Rattle.rv_history.proofs.Reaching.{within_budget}
use Rattle.rv_history.proofs.history.History.go_on.Goals as goal

pub next_stop-requires : goal.next_stop-requires
next_stop-requires g c = record {
  is_at = record {
    completed = c.self.invariant.0.completed;
    state_is = c.in_ok-machine.ensures ∙ c.self.invariant.0.state_is;
  };
  order = omega arith;
  within = c.self.invariant.1;
  passed_no_stop = λ j low high. absurd (omega arith);
}

pub invariant_of-self-2 : goal.invariant_of-self-2
invariant_of-self-2 g c =
    let few = within_budget c.self.inside.budget c.self.inside.checkpoints in
    let within = c.in_ok-end.ensures.stop.1.within in
    rw c.next_stop.ensures.run_unchanged (c.in_ok-end.ensures.stop.0, omega (arith, few, within))

pub returns-clause-stop : goal.returns-clause-stop
returns-clause-stop g c = rw (← c.self.view_is) c.in_ok-end.ensures.stop.1
