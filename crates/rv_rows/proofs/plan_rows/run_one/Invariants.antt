use Rattle.std.proofs.Common.{◌≡◌, map, take}
use Rattle.rv_rows.specs.RecentOutcomes.{AreOutcomesOfPlan}
use Rattle.rv_rows.specs.Rows.{row_of}
use Rattle.rv_rows.proofs.plan_rows.run_one.Given as goal

abbrev pub invariant-loop-i : goal.invariant-loop-i
invariant-loop-i l = record {
  rows : l.rows.items ≡ map (row_of l.plan) (take l.i l.plan.jobs);
  recent : AreOutcomesOfPlan l.plan l.recent;
}
