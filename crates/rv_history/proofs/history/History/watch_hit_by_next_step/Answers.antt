use Rattle.std.proofs.Common.{◌≡◌, ◌∙◌, ◌+◌, ℕ, ap, arith}
use Rattle.rv_trace.specs.Machine.{state_of}
use Rattle.rv_trace.specs.Trace.{state_after}
use Rattle.rv_history.proofs.Differing.{set_off_in}
use Rattle.rv_history.proofs.Reaching.{within_budget}
use Rattle.rv_history.proofs.history.History.watch_hit_by_next_step.Goals as goal

pub returns : goal.returns
returns c = rw (← c.self.view_is) (λ before.
    let start = c.self.inside.checkpoints in
    let step = c.self.inside.step in
    let few = within_budget c.self.inside.budget start in
    let one_more : c.min-steps.result ≡ step + 1 = omega arith in
    set_off_in c.first_triggered.result c.args.stops.now (state_of c.self.inside.machine) (state_of c.in_ok-ahead.ahead)
    (state_after step start) (state_after (step + 1) start) c.self.invariant.0.state_is
    (c.in_ok-ahead.ensures ∙ ap (λ (k : ℕ). state_after k start) one_more) c.first_triggered.ensures)
