use Rattle.std.proofs.Common.{◌≡◌, ◌≤◌, ◌-◌}
use Rattle.rv_history.specs.StoredStates.{IsAt}
use Rattle.rv_history.proofs.search.run_to_end.Given as goal

abbrev pub invariant-places : goal.invariant-places
invariant-places g l = record {
  there : IsAt l.initial.checkpoints l.way.at;
  order : l.way.from ≤ l.way.at.step;
  within : l.way.at.step ≤ l.way.budget;
  way : l.way ≡ record l.fn.forward_move { at = l.way.at };
  same : l.checkpoints ≡ l.initial.checkpoints;
}

abbrev pub decreases-places : goal.decreases-places
decreases-places g l = l.way.budget - l.way.at.step
