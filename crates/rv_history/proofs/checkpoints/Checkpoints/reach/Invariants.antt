use Rattle.std.proofs.Common.{◌-◌, ◌≡◌, ◌≤◌}
use Rattle.rv_history.specs.StoredStates.{IsAt}
use Rattle.rv_history.proofs.checkpoints.Checkpoints.reach.Given as goal

abbrev pub invariant-loop-next : goal.invariant-loop-next
invariant-loop-next l = record {
  order : l.at.step ≤ l.step;
  there : IsAt l.initial.self l.at;
  same : l.self ≡ l.initial.self;
}

abbrev pub decreases-loop-next : goal.decreases-loop-next
decreases-loop-next l = l.step - l.at.step
