-- As many marks as there are jobs.
use Rattle.std.proofs.Common.{◌≡◌, ◌+◌, ℕ, Bool, List, [], ◌∷◌, length, refl, suc, ap, arith}
use Rattle.rv_rows.specs.declared_job.Job.{Job}
use Rattle.rv_accept.specs.Sharing.{jobs_to_run, with_compared_jobs, with_sharing_jobs}

sharing_count : (all : List Job) (chosen : List Bool) (jobs : List Job) (selection : List Bool) → length selection ≡ length jobs
    → length (with_sharing_jobs all chosen jobs selection) ≡ length jobs
unfolding with_sharing_jobs
sharing_count all chosen [] selection same = refl
sharing_count all chosen (job ∷ jobs) [] same = cc
sharing_count all chosen (job ∷ jobs) (selected ∷ selection) same = ap suc (sharing_count all chosen jobs selection (omega (arith, same)))

compared_count : (index : ℕ) (jobs : List Job) (selection : List Bool) → length selection ≡ length jobs
    → length (with_compared_jobs index jobs selection) ≡ length jobs
unfolding with_compared_jobs
compared_count index [] selection same = refl
compared_count index (job ∷ jobs) [] same = cc
compared_count index (job ∷ jobs) (selected ∷ selection) same = ap suc (compared_count (index + 1) jobs selection (omega (arith, same)))

pub marks_count : (jobs : List Job) (chosen : List Bool) → length chosen ≡ length jobs
    → length (jobs_to_run jobs chosen) ≡ length jobs
marks_count jobs chosen same = compared_count 0 jobs (with_sharing_jobs jobs chosen jobs chosen)
    (sharing_count jobs chosen jobs chosen same)
