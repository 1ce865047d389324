use Rattle.std.proofs.Common.{◌≡◌, ◌+◌, ◌≤◌, drop}
use Rattle.rv_base.specs.Limits.{max_jobs}
use Rattle.rv_report.specs.Saved.{are_evenly_spaced}
use Rattle.rv_report.proofs.saved.are_evenly_spaced.Given as goal

abbrev pub invariant-loop-number : goal.invariant-loop-number
invariant-loop-number l = record {
  rest : are_evenly_spaced l.next l.step l.limit (drop l.number-index l.numbers) ≡ are_evenly_spaced l.first l.step l.limit l.numbers;
  small : l.next ≤ max_jobs + max_jobs;
}
