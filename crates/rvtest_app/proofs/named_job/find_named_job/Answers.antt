use Rattle.std.proofs.Common.{inr}
use Rattle.rvtest_app.proofs.named_job.find_named_job.Goals as goal

pub returns-in-None-clause-stopped : goal.returns-in-None-clause-stopped
returns-in-None-clause-stopped c =
    let unknown = rw c.as_slice-in-None.ensures.value at c.unknown_name_stop.ensures in
    inr (c.in_ok-jobs.jobs, (c.in_ok-jobs.ensures.jobs, unknown))
