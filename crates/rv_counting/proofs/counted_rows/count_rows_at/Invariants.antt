-- The jobs so far have their rows, and their runs are counted.
use Rattle.std.proofs.Common.{◌≡◌, ◌≤◌, length, take}
use Rattle.rv_fleet.specs.RecentOutcomes.{AreOutcomesOfPlan}
use Rattle.rv_trace.specs.Rows.{rows_at}
use Rattle.rv_counting.specs.JobTables.{jobs_at}
use Rattle.rv_counting.specs.RunCounts.{HasCountedJobs}
use Rattle.rv_counting.proofs.counted_rows.count_rows_at.Given as goal

abbrev pub invariant-loop-k : goal.invariant-loop-k
invariant-loop-k l = record {
  within : l.k ≤ length l.indices;
  counted : HasCountedJobs l.plan.results (jobs_at l.plan (take l.k l.indices)) l.counter;
  rows : l.rows.items ≡ rows_at l.plan (take l.k l.indices);
  recent : AreOutcomesOfPlan l.plan l.worker_state.recent;
}
