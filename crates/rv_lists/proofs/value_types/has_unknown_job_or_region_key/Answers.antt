use Rattle.std.proofs.Common.{rules}
use Rattle.rv_lists.specs.Keys.{has_unknown_job_or_region_key}
use Rattle.rv_lists.proofs.value_types.has_unknown_job_or_region_key.Goals as goal

pub returns-else-has_unknown_job_key : goal.returns-else-has_unknown_job_key
unfolding has_unknown_job_or_region_key
returns-else-has_unknown_job_key c = search rules
