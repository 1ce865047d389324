use Rattle.std.proofs.Common.{◌≡◌, ◌≤◌, ◌<◌, ℕ}
use Rattle.rv_list_errors.specs.NearestJob.{job_name_distance}
use Rattle.rv_list_errors.proofs.name_search.nearest_job.Given as goal

abbrev pub invariant-loop-index : goal.invariant-loop-index
invariant-loop-index l = record {
  within : l.nearest < l.index;
  is : l.least ≡ job_name_distance l.text l.jobs l.nearest;
  least : (other : ℕ) → other < l.index → l.least ≤ job_name_distance l.text l.jobs other;
  first : (other : ℕ) → other < l.nearest → l.least < job_name_distance l.text l.jobs other;
}
