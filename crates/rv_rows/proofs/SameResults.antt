-- The rows of a choice of jobs are those of the whole.
use Rattle.std.proofs.Common.{◌≡◌, ◌∙◌, ℕ, suc, ◌+◌, ◌-◌, List, [], ◌∷◌, Option, Some, None, length, get_or}
use Rattle.std.proofs.Common.{refl, ap, subst, arith, option_map, length-append}
use Rattle.std.specs.Prelude.{option_and_then, slice_get}
use Rattle.std.specs.List.{All}
use Rattle.std.proofs.lemmas.Option.{get_or_from_slice_get}
use Rattle.std.proofs.Math.ListN.{get_or-append}
use Rattle.std.proofs.lemmas.List.{get_or-append_right}
use Rattle.rv_jobs.specs.declared.path_results.PathResult.{PathResult}
use Rattle.rv_jobs.specs.declared_job.Job.{Job}
use Rattle.rv_jobs.specs.Jobs.{single_job}
use Rattle.rv_jobs.specs.Plans.{same_as_jobs, jobs_needed_at, jobs_needed_for}
use Rattle.rv_rows.specs.Outcome.{outcome_of}
use Rattle.rv_rows.specs.Rows.{content_if_read, outcome_in, row_of, row_of_outcome, rows_at}
use Rattle.rv_rows.specs.Verdict.{verdict_of}
use Rattle.rv_rows.specs.SameResults.{HaveSameResults, plan_of_jobs}

module _ (jobs : List Job) (a b : List PathResult) where
  outcome_same : (job : Job) → HaveSameResults a b job → outcome_in a job ≡ outcome_in b job
  outcome_same job same = λ i. outcome_of job (same.image i) (same.reference i) (same.console i)

  found_same : (k : ℕ) → HaveSameResults a b (get_or jobs k (single_job [] 0 [])) → (x : Option Job) → slice_get jobs k ≡ x
      → option_map (outcome_in a) x ≡ option_map (outcome_in b) x
  found_same k same None is = refl
  found_same k same (Some job) is = ap Some (outcome_same job
      (subst (HaveSameResults a b) (get_or_from_slice_get jobs k job (single_job [] 0 []) is) same))

  other_same : (o : Option ℕ) → All (HaveSameResults a b) (same_as_jobs jobs o)
      → option_map (outcome_in a) (option_and_then (slice_get jobs) o)
      ≡ option_map (outcome_in b) (option_and_then (slice_get jobs) o)
  other_same None all = refl
  other_same (Some k) all = found_same k (all 0 (single_job [] 0 []) (omega arith)) (slice_get jobs k) refl

  row_same : (place : ℕ) → All (HaveSameResults a b) (jobs_needed_at jobs place)
      → row_of (plan_of_jobs jobs a) (get_or jobs place (single_job [] 0 []))
      ≡ row_of (plan_of_jobs jobs b) (get_or jobs place (single_job [] 0 []))
  unfolding row_of
  row_same place all =
      let job : Job = get_or jobs place (single_job [] 0 []) in
      let own : HaveSameResults a b job = all 0 job (omega arith) in
      let named : All (HaveSameResults a b) (same_as_jobs jobs job.same_as) = λ k d inside. all (suc k) d (omega arith) in
      λ i. row_of_outcome job.name (outcome_same job own i) (verdict_of job (outcome_same job own i)
      (content_if_read (own.reference i)) (content_if_read (own.console i)) (other_same job.same_as named i))

  pub rows_same : (places : List ℕ) → All (HaveSameResults a b) (jobs_needed_for jobs places)
      → rows_at (plan_of_jobs jobs a) places ≡ rows_at (plan_of_jobs jobs b) places
  unfolding rows_at
  rows_same [] all = refl
  rows_same (p ∷ ps) all =
      let first : List Job = jobs_needed_at jobs p in
      let rest : List Job = jobs_needed_for jobs ps in
      let one : All (HaveSameResults a b) first = λ k d inside. subst (HaveSameResults a b) (get_or-append first rest d k inside)
      (all k d (omega (arith, length-append first rest))) in
      let n : ℕ = length first in
      let more : All (HaveSameResults a b) rest = λ k d inside.
      let back : n + k - n ≡ k = omega arith in
      subst (HaveSameResults a b)
      (get_or-append_right first rest n (n + k) d refl (omega arith) ∙ ap (λ i. get_or rest i d) back)
      (all (n + k) d (omega (arith, length-append first rest, inside))) in
      λ i. row_same p one i ∷ rows_same ps more i
