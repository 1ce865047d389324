-- The places that are noted of jobs while their paths are asked for.
use Rattle.std.proofs.Common.{◌≡◌, ◌∙◌, ◌<◌, true, ℕ, List, [], ◌∷◌, Option, Some, None, ap, sym}
use Rattle.std.proofs.Common.{length, arith, subst, get_or, is_some, IfSome, inl, inr}
use Rattle.std.specs.Prelude.{slice_set}
use Rattle.std.proofs.lemmas.Bool.{cases_lt}
use Rattle.std.proofs.lemmas.List.{get_or_default, get_or_push, length-set, get_or-set_same, get_or-set_other}
use Rattle.std.proofs.Math.ListN.{get_or-append}
use Rattle.std.proofs.Common.{◌+◌, ◌++◌}
use Rattle.rv_lists.specs.declared.job.Job.{Job}
use Rattle.rv_jobs.specs.declared.path_reading.ResultIndices.{ResultIndices}
use Rattle.rv_jobs.specs.declared.path_reading.PartialResultIndices.{PartialResultIndices}
use Rattle.rv_jobs.specs.ResultIndices.{AreResultIndices, AreRecorded, ArePartialResultIndices}
use Rattle.rv_jobs.specs.Plans.{with_job_paths}
use Rattle.rv_jobs.proofs.Answering.{placed_later}
use Rattle.rv_jobs.proofs.Needing.{placed_old}

old_at : (xs : List (List ℕ)) (job : Job) (o : Option ResultIndices) → is_some o ≡ true
    → IfSome o (λ at. AreResultIndices xs job at) → xs ≡ with_job_paths xs job
old_at xs job None e h = cc
old_at xs job (Some at) e h = sym (placed_old xs job at h)

of_one : (xs : List (List ℕ)) (jobs : List Job) (i : ℕ) (d : Job) (o : Option ResultIndices)
    → IfSome o (λ at. (d : Job) → AreResultIndices xs (get_or jobs i d) at)
    → IfSome o (λ at. AreResultIndices xs (get_or jobs i d) at)
of_one xs jobs i d None h = tt
of_one xs jobs i d (Some at) h = h d

-- a job whose places are noted adds no path
pub noted_old : (xs : List (List ℕ)) (jobs : List Job) (noted : List (Option ResultIndices)) (i : ℕ) (d : Job)
    (o : Option ResultIndices) → AreRecorded xs jobs noted → i < length jobs → o ≡ get_or noted i o → is_some o ≡ true
    → xs ≡ with_job_paths xs (get_or jobs i d)
noted_old xs jobs noted i d o are inside there e =
    let same : o ≡ get_or noted i None = there ∙ get_or_default noted i o None
    (subst (λ n. i < n) (sym are.many) inside) in
    old_at xs (get_or jobs i d) o e
    (of_one xs jobs i d o (subst (λ p. IfSome p (λ at. (d : Job) → AreResultIndices xs (get_or jobs i d) at)) (sym same)
    (are.each i)))

later_one : (xs : List (List ℕ)) (jobs : List Job) (other : Job) (i : ℕ) (o : Option ResultIndices)
    → IfSome o (λ at. (d : Job) → AreResultIndices xs (get_or jobs i d) at)
    → IfSome o (λ at. (d : Job) → AreResultIndices (with_job_paths xs other) (get_or jobs i d) at)
later_one xs jobs other i None h = tt
later_one xs jobs other i (Some at) h = λ d. placed_later xs other (get_or jobs i d) at (h d)

-- one job's places more
module _ (xs ys : List (List ℕ)) (jobs : List Job) (noted : List (Option ResultIndices)) (i : ℕ) (job : Job) (at : ResultIndices)
    (are : AreRecorded xs jobs noted) (inside : i < length jobs) (is : job ≡ get_or jobs i job)
    (grown : ys ≡ with_job_paths xs job) (placed : AreResultIndices ys job at) where
  below : i < length noted
  below = subst (λ n. i < n) (sym are.many) inside

  at_itself : IfSome (get_or (slice_set noted i (Some at)) i None)
      (λ a. (d : Job) → AreResultIndices ys (get_or jobs i d) a)
  at_itself = subst (λ o. IfSome o (λ a. (d : Job) → AreResultIndices ys (get_or jobs i d) a))
      (sym (get_or-set_same noted i (Some at) None below))
      (λ d. subst (λ j. AreResultIndices ys j at) (is ∙ get_or_default jobs i job d inside) placed)

  at_other : (k : ℕ) → (k ≡ i → ⊥) → IfSome (get_or (slice_set noted i (Some at)) k None)
      (λ a. (d : Job) → AreResultIndices ys (get_or jobs k d) a)
  at_other k apart = subst (λ o. IfSome o (λ a. (d : Job) → AreResultIndices ys (get_or jobs k d) a))
      (sym (get_or-set_other noted i k (Some at) None apart))
      (subst (λ zs. IfSome (get_or noted k None) (λ a. (d : Job) → AreResultIndices zs (get_or jobs k d) a)) (sym grown)
      (later_one xs jobs job k (get_or noted k None) (are.each k)))

  pub noted_more : AreRecorded ys jobs (slice_set noted i (Some at))
  noted_more = record {
    many = length-set noted i (Some at) ∙ are.many;
    each = λ k. elim (cases_lt k i) [
      | inl low ↦ at_other k (λ e. omega arith)
      | inr high ↦ elim (cases_lt i k) [
        | inl above ↦ at_other k (λ e. omega arith)
        | inr not_above ↦
            let same : i ≡ k = omega arith in
            subst (λ n. IfSome (get_or (slice_set noted i (Some at)) n None)
            (λ a. (d : Job) → AreResultIndices ys (get_or jobs n d) a)) same at_itself
      ]
    ];
  }

-- where the paths of one job more stand
pub found_more : (xs : List (List ℕ)) (jobs : List Job) (old new : List PartialResultIndices) (n : ℕ) (job : Job) (x : PartialResultIndices)
    → n < length jobs → job ≡ get_or jobs n job → length old ≡ n → new ≡ old ++ x ∷ [] → ArePartialResultIndices xs job x
    → ((i : ℕ) (d : Job) (e : PartialResultIndices) → i < n → ArePartialResultIndices xs (get_or jobs i d) (get_or old i e))
    → (i : ℕ) (d : Job) (e : PartialResultIndices) → i < n + 1 → ArePartialResultIndices xs (get_or jobs i d) (get_or new i e)
found_more xs jobs old new n job x low is many pushed mine before i d e h = elim (cases_lt i n) [
  | inl below ↦
      let inside : i < length old = omega arith in
      rw (pushed, get_or-append old (x ∷ []) e i inside) (before i d e below)
  | inr past ↦
      let at : n ≡ i = omega arith in
      let last : x ≡ get_or new i e = sym (ap (λ l. get_or l i e) pushed ∙ get_or_push old x e i (many ∙ at)) in
      let inside : i < length jobs = omega arith in
      let there : job ≡ get_or jobs i d = is ∙ ap (λ k. get_or jobs k job) at ∙ get_or_default jobs i job d inside in
      subst (λ z. ArePartialResultIndices xs (get_or jobs i d) z) last (subst (λ z. ArePartialResultIndices xs z x) there mine)
]
