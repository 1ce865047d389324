-- What a plan answers for the paths of its jobs.
use Rattle.std.proofs.Common.{◌≡◌, ◌∙◌, ◌<◌, ℕ, List, [], Option, Some, None, ap, sym, length, subst, get_or}
use Rattle.std.proofs.Common.{IfSome, option_map, option_and_then}
use Rattle.std.proofs.lemmas.List.{get_or_default}
use Rattle.rv_lists.specs.declared.job.Job.{Job}
use Rattle.rv_jobs.specs.declared.kept.Kept.{Kept}
use Rattle.rv_jobs.specs.declared.path_reading.PartialResultIndices.{PartialResultIndices}
use Rattle.rv_jobs.specs.declared.plan.Plan.TheInside.{Inside}
use Rattle.rv_lists.specs.Jobs.{single_job}
use Rattle.rv_lists.specs.Names.{index_in}
use Rattle.rv_jobs.specs.ResultIndices.{ArePartialResultIndices}
use Rattle.rv_jobs.specs.PlanInside.{IsValidPlan, paths_read, plan_view}
use Rattle.rv_jobs.specs.Plans.{PlanView, paths_of, result_or_unreadable}
use Rattle.rv_jobs.proofs.Answering.{paths-with, path_below}

module _ (a : Inside) (is : IsValidPlan a) (p : PlanView) (view : plan_view a ≡ p) (i : ℕ) (within : i < length p.jobs)
    (at : PartialResultIndices) (there : at ≡ get_or a.result_indices.items i at) where
  inside : i < length a.jobs
  inside = subst (λ (q : PlanView). i < length q.jobs) (sym view) within

  pub found : (d : Job) → ArePartialResultIndices (paths_read a) (get_or a.jobs i d) at
  found d = subst (λ f. ArePartialResultIndices (paths_read a) (get_or a.jobs i d) f) (sym there) (is.result_indices.each i d at inside)

  path_within : (path : List ℕ) (place : Option ℕ) → index_in (paths_read a) path ≡ place
      → IfSome place (λ k. k < length p.results)
  path_within = path_below p.results (paths_read a) a.results.items is.same_length (ap (λ (q : PlanView). q.results) view)

  pub image_within : IfSome at.image (λ k. k < length p.results)
  image_within =
      let any = get_or a.jobs i (single_job [] 0 []) in
      path_within any.image at.image (found (single_job [] 0 [])).image

  pub image_at : (d : Job) → index_in (paths_of p.results) (get_or p.jobs i d).image ≡ at.image
  image_at d = subst (λ (q : PlanView). index_in (paths_of q.results) (get_or q.jobs i d).image ≡ at.image) view
      (ap (λ l. index_in l (get_or a.jobs i d).image) (paths-with (paths_read a) a.results.items is.same_length)
      ∙ (found d).image)

  -- of the path that a job may name, as its reference
  module _ (named : Job → Option (List ℕ)) (place : Option ℕ)
      (placed : (d : Job) → option_and_then (index_in (paths_read a)) (named (get_or a.jobs i d)) ≡ place) where
    within_if : (o : Option (List ℕ)) → option_and_then (index_in (paths_read a)) o ≡ place
        → IfSome place (λ k. k < length p.results)
    within_if None e = subst (λ o. IfSome o (λ k. k < length p.results)) e tt
    within_if (Some path) e = path_within path place e

    pub named_within : IfSome place (λ k. k < length p.results)
    named_within = within_if (named (get_or a.jobs i (single_job [] 0 []))) (placed (single_job [] 0 []))

    pub named_kept : (job : Job) (path : List ℕ) (kept : Kept) → job ≡ get_or p.jobs i job → named job ≡ Some path
        → ((q : List ℕ) → index_in (paths_of p.results) q ≡ place → kept ≡ result_or_unreadable p.results q) → (d : Job)
        → Some kept ≡ option_map (result_or_unreadable p.results) (named (get_or p.jobs i d))
    named_kept job path kept job_is names told d =
        let same : named (get_or p.jobs i d) ≡ Some path =
        ap named (sym (job_is ∙ get_or_default p.jobs i job d within)) ∙ names in
        let stands : option_and_then (index_in (paths_of p.results)) (named (get_or p.jobs i d)) ≡ place =
        subst (λ (q : PlanView). option_and_then (index_in (paths_of q.results)) (named (get_or q.jobs i d)) ≡ place)
        view
        (ap (λ l. option_and_then (index_in l) (named (get_or a.jobs i d)))
        (paths-with (paths_read a) a.results.items is.same_length) ∙ placed d) in
        ap (λ k. Some k) (told path (sym (ap (option_and_then (index_in (paths_of p.results))) same) ∙ stands))
        ∙ sym (ap (option_map (result_or_unreadable p.results)) same)
