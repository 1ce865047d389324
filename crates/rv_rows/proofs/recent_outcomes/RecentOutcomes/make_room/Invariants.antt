use Rattle.std.proofs.Common.{length}
use Rattle.rv_jobs.specs.Plans.{PlanView}
use Rattle.rv_rows.specs.RecentOutcomes.{AreOutcomesOfPlan}
use Rattle.rv_rows.proofs.recent_outcomes.RecentOutcomes.make_room.Given as goal

abbrev pub invariant-loop-self : goal.invariant-loop-self
invariant-loop-self l = (plan : PlanView) → AreOutcomesOfPlan plan l.initial.self → AreOutcomesOfPlan plan l.self

abbrev pub decreases-loop-self : goal.decreases-loop-self
decreases-loop-self l = length l.self
