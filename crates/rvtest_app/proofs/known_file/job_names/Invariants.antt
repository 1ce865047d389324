use Rattle.std.proofs.Common.{◌≡◌, take}
use Rattle.rv_expect.specs.KnownJobs.{job_names}
use Rattle.rv_rows.specs.JobList.{names_of_jobs}
use Rattle.rvtest_app.proofs.known_file.job_names.Given as goal

abbrev pub invariant-loop-job : goal.invariant-loop-job
invariant-loop-job l = job_names l.names.items ≡ names_of_jobs (take l.job-index l.jobs)
