-- The texts of jobs, each by its place and the job, as they are appended.
use Rattle.std.proofs.Common.{◌≡◌, ◌∙◌, ◌+◌, ◌<◌, ◌≤◌, ◌++◌, ℕ, List, ap, get_or, length, sym, take, zero-add}
use Rattle.std.specs.List.{enumerate_from, flat_map}
use Rattle.std.proofs.lemmas.List.FromFn.{get_or-enumerate_from, length-enumerate_from}
use Rattle.rv_rows.specs.declared_job.Job.{Job}
use Rattle.rv_job_text.proofs.Public.{all_told, one_more}
use Rattle.rvtest_app.specs.CheckText.{texts_of_jobs}

-- those of the jobs before a place
abbrev pub texts_before : (ℕ → Job → List ℕ) → List Job → ℕ → List ℕ
texts_before text jobs place = flat_map (λ entry. text entry.0 entry.1) (take place (enumerate_from 0 jobs))

module _ (text : ℕ → Job → List ℕ) (jobs : List Job) (place : ℕ) where
  -- and that of the job at the place
  pub texts_before-more : (job : Job) (old mid new : List ℕ) → place < length jobs
      → mid ≡ old ++ texts_before text jobs place → new ≡ mid ++ text place (get_or jobs place job)
      → new ≡ old ++ texts_before text jobs (place + 1)
  texts_before-more job old mid new below so_far last =
      let f : ℕ × Job → List ℕ = λ entry. text entry.0 entry.1 in
      let entry = get_or-enumerate_from 0 jobs place (place, job) below
      ∙ ap (λ (number : ℕ). (number, get_or jobs place job)) (zero-add place) in
      one_more f (enumerate_from 0 jobs) place (place, job) old mid new (rw length-enumerate_from below) so_far
      (last ∙ ap (λ (entry : ℕ × Job). mid ++ f entry) (sym entry))

  -- past the last job they are those of all
  pub texts_before-all : (old new : List ℕ) → length jobs ≤ place → new ≡ old ++ texts_before text jobs place
      → new ≡ old ++ texts_of_jobs text jobs
  texts_before-all old new past so_far =
      let f : ℕ × Job → List ℕ = λ entry. text entry.0 entry.1 in
      all_told f (enumerate_from 0 jobs) place old new (rw length-enumerate_from past) so_far
