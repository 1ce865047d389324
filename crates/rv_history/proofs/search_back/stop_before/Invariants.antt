use Rattle.std.proofs.Common.{ℕ, ◌≤◌}
use Rattle.rv_history.specs.LastStop.{HaveNoStops}
use Rattle.rv_history.proofs.search_back.stop_before.Given as goal

abbrev pub invariant-loop-end : goal.invariant-loop-end
invariant-loop-end g l = record {
  order : l.end ≤ l.from;
  quiet : (budget : ℕ) → l.from ≤ budget → HaveNoStops l.stops budget l.checkpoints l.end l.from;
}

abbrev pub decreases-loop-end : goal.decreases-loop-end
decreases-loop-end g l = l.end
