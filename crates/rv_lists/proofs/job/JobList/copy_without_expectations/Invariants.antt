use Rattle.std.proofs.Common.{◌≡◌, ◌≤◌, length, map, take}
use Rattle.rv_lists.specs.Jobs.{without_expectations}
use Rattle.rv_lists.proofs.job.JobList.copy_without_expectations.Given as goal

abbrev pub invariant-loop-at : goal.invariant-loop-at
invariant-loop-at l = record {
  within : l.at ≤ length l.self;
  copied : l.items.items ≡ map without_expectations (take l.at l.self);
}
