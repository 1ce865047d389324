-- The paths that rows need, place by place.
use Rattle.std.proofs.Common.{◌≡◌, ◌∙◌, ◌+◌, ◌<◌, ◌≤◌, ◌++◌, true, false, ℕ, zero, suc, List, [], ◌∷◌, Option, Some}
use Rattle.std.proofs.Common.{None}
use Rattle.std.proofs.Common.{IfSome, refl, ap, sym, length, arith, get_or, is_some, take, append-nil, option_map}
use Rattle.std.specs.List.{fold}
use Rattle.std.proofs.Math.Seq.{take-length}
use Rattle.std.proofs.lemmas.Grind.{flat_map-append, fold-append}
use Rattle.std.proofs.lemmas.List.{take_more, length-take, get_or-take}
use Rattle.rv_lists.specs.declared.job.Job.{Job}
use Rattle.rv_jobs.specs.declared.path_reading.ResultIndices.{ResultIndices}
use Rattle.rv_lists.specs.Jobs.{AreValidJobs, console_path, single_job}
use Rattle.rv_lists.specs.Names.{index_in}
use Rattle.rv_jobs.specs.ResultIndices.{AreResultIndices}
use Rattle.rv_jobs.specs.declared.path_results.PathResult.{PathResult}
use Rattle.rv_jobs.specs.declared.kept.Kept.TheVariants.{Unreadable}
use Rattle.rv_jobs.specs.Plans.{with_path, with_path_if_any, with_job_paths, paths_used, same_as_jobs, jobs_needed_at, jobs_needed_for}
use Rattle.rv_jobs.specs.Plans.{paths_of, result_of_path, HasResults}
use Rattle.std.proofs.Common.{IsTrue, subst}
use Rattle.rv_jobs.proofs.Answering.{result_at_index}
use Rattle.rv_jobs.proofs.Answering.{with_path-old, with_path-new, no_place, new_place, keeps_place}

-- ---- paths that are there

abbrev IsThere : List (List ℕ) → List ℕ → Type 0
IsThere xs p = is_some (index_in xs p) ≡ true

place_there : (o : Option ℕ) → is_some o ≡ true → (k : ℕ) × (o ≡ Some k)
place_there None e = cc
place_there (Some k) e = (k, refl)

put_in : (xs : List (List ℕ)) (p : List ℕ) → IsThere (with_path xs p) p
put_in xs p = elim (is_some (index_in xs p)) as (λ b. is_some (index_in xs p) ≡ b → IsThere (with_path xs p) p) [
  | true ↦ λ e. ap (λ ys. is_some (index_in ys p)) (sym (with_path-old xs p e)) ∙ e
  | false ↦ λ e. ap is_some
      (new_place xs (with_path xs p) p (length xs) (no_place xs p e) (sym (with_path-new xs p e)) refl)
] refl

stays : (xs : List (List ℕ)) (p q : List ℕ) → IsThere xs q → IsThere (with_path xs p) q
stays xs p q h = let t = place_there (index_in xs q) h in ap is_some (keeps_place xs p q t.0 t.1)

stays_if : (xs : List (List ℕ)) (o : Option (List ℕ)) (q : List ℕ) → IsThere xs q → IsThere (with_path_if_any xs o) q
stays_if xs None q h = h
stays_if xs (Some p) q h = stays xs p q h

put_in_if : (xs : List (List ℕ)) (o : Option (List ℕ)) (p : List ℕ) → o ≡ Some p → IsThere (with_path_if_any xs o) p
put_in_if xs None p e = cc
put_in_if xs (Some q) p e = let same : q ≡ p = cc in ap (λ z. is_some (index_in (with_path xs q) z)) (sym same)
    ∙ put_in xs q

old_if : (xs : List (List ℕ)) (o : Option (List ℕ)) → ((p : List ℕ) → o ≡ Some p → IsThere xs p)
    → with_path_if_any xs o ≡ xs
old_if xs None there = refl
old_if xs (Some p) there = sym (with_path-old xs p (there p refl))

-- the paths of a job are there
record HasPaths (xs : List (List ℕ)) (job : Job) : Type 0 where
  image : IsThere xs job.image
  reference : (p : List ℕ) → job.expect_signature ≡ Some p → IsThere xs p
  console : (p : List ℕ) → console_path job.expect_console ≡ Some p → IsThere xs p

job_stays : (xs : List (List ℕ)) (other : Job) (q : List ℕ) → IsThere xs q → IsThere (with_job_paths xs other) q
job_stays xs other q h =
    stays_if (with_path_if_any (with_path xs other.image) other.expect_signature) (console_path other.expect_console) q
    (stays_if (with_path xs other.image) other.expect_signature q (stays xs other.image q h))

has_later : (xs : List (List ℕ)) (other job : Job) → HasPaths xs job → HasPaths (with_job_paths xs other) job
has_later xs other job h = record {
  image = job_stays xs other job.image h.image;
  reference = λ p e. job_stays xs other p (h.reference p e);
  console = λ p e. job_stays xs other p (h.console p e);
}

has_itself : (xs : List (List ℕ)) (job : Job) → HasPaths (with_job_paths xs job) job
has_itself xs job =
    let ys = with_path xs job.image in
    let zs = with_path_if_any ys job.expect_signature in
    record {
      image = stays_if zs (console_path job.expect_console) job.image
          (stays_if ys job.expect_signature job.image (put_in xs job.image));
      reference = λ p e. stays_if zs (console_path job.expect_console) p (put_in_if ys job.expect_signature p e);
      console = λ p e. put_in_if zs (console_path job.expect_console) p e;
    }

-- a job whose paths are there adds none
has_old : (xs : List (List ℕ)) (job : Job) → HasPaths xs job → with_job_paths xs job ≡ xs
has_old xs job h =
    ap (λ ys. with_path_if_any (with_path_if_any ys job.expect_signature) (console_path job.expect_console))
    (sym (with_path-old xs job.image h.image))
    ∙ ap (λ ys. with_path_if_any ys (console_path job.expect_console)) (old_if xs job.expect_signature h.reference)
    ∙ old_if xs (console_path job.expect_console) h.console

placed_there : (xs : List (List ℕ)) (o : Option (List ℕ)) (r : Option ℕ)
    → option_map (index_in xs) o ≡ option_map (λ k. Some k) r → (p : List ℕ) → o ≡ Some p → IsThere xs p
placed_there xs None r e p is = cc
placed_there xs (Some q) None e p is = cc
placed_there xs (Some q) (Some k) e p is =
    let h : index_in xs q ≡ Some k = cc in
    let same : q ≡ p = cc in
    ap (λ z. is_some (index_in xs z)) (sym same) ∙ ap is_some h

pub placed_old : (xs : List (List ℕ)) (job : Job) (at : ResultIndices) → AreResultIndices xs job at → with_job_paths xs job ≡ xs
placed_old xs job at h = has_old xs job (record {
  image = ap is_some h.image;
  reference = placed_there xs job.expect_signature at.reference h.reference;
  console = placed_there xs (console_path job.expect_console) at.console h.console;
})

has_still : (xs : List (List ℕ)) (js : List Job) (job : Job) → HasPaths xs job → HasPaths (fold with_job_paths xs js) job
has_still xs [] job h = h
has_still xs (j ∷ js) job h = has_still (with_job_paths xs j) js job (has_later xs j job h)

has_used : (xs : List (List ℕ)) (js : List Job) (k : ℕ) (d : Job) → k < length js
    → HasPaths (fold with_job_paths xs js) (get_or js k d)
has_used xs [] k d l = absurd (omega arith)
has_used xs (j ∷ js) zero d l = has_still (with_job_paths xs j) js j (has_itself xs j)
has_used xs (j ∷ js) (suc k) d l = has_used (with_job_paths xs j) js k d (omega arith)

-- a job that is among them adds none to the paths of jobs
job_used : (js : List Job) (k : ℕ) (d : Job) → k < length js
    → with_job_paths (fold with_job_paths [] js) (get_or js k d) ≡ fold with_job_paths [] js
job_used js k d inside = has_old (fold with_job_paths [] js) (get_or js k d) (has_used [] js k d inside)

-- ---- answers

answered : (answers : List PathResult) (p : List ℕ) → IsThere (paths_of answers) p → IsTrue (is_some (result_of_path answers p))
answered answers p h =
    let t = place_there (index_in (paths_of answers) p) h in
    ap is_some (result_at_index answers p t.0 (record { path = p; kept = Unreadable }) t.1)

answered_if : (answers : List PathResult) (o : Option (List ℕ))
    → ((p : List ℕ) → o ≡ Some p → IsThere (paths_of answers) p)
    → IfSome o (λ p. IsTrue (is_some (result_of_path answers p)))
answered_if answers None there = tt
answered_if answers (Some p) there = answered answers p (there p refl)

pub used_answered : (jobs : List Job) (answers : List PathResult) → paths_of answers ≡ paths_used jobs → (i : ℕ) (d : Job)
    → i < length jobs → HasResults answers (get_or jobs i d)
unfolding paths_used
used_answered jobs answers used i d inside =
    let job = get_or jobs i d in
    let has = subst (λ xs. HasPaths xs job) (sym used) (has_used [] jobs i d inside) in
    record {
      image = answered answers job.image has.image;
      reference = answered_if answers job.expect_signature has.reference;
      console = answered_if answers (console_path job.expect_console) has.console;
    }

-- ---- place by place

module _ (jobs : List Job) where
  -- the paths for one place more
  pub needed_more : (places : List ℕ) (i d : ℕ) → i < length places
      → fold with_job_paths [] (jobs_needed_for jobs (take (i + 1) places))
      ≡ fold with_job_paths (fold with_job_paths [] (jobs_needed_for jobs (take i places))) (jobs_needed_at jobs (get_or places i d))
  needed_more places i d inside =
      let before : List Job = jobs_needed_for jobs (take i places) in
      let last : ℕ = get_or places i d in
      ap (λ ps. fold with_job_paths [] (jobs_needed_for jobs ps)) (take_more places i d inside)
      ∙ (ap (fold with_job_paths []) (flat_map-append (jobs_needed_at jobs) (take i places) (last ∷ [])
      ∙ ap (λ js. before ++ js) (append-nil (jobs_needed_at jobs last)))
      ∙ fold-append with_job_paths [] before (jobs_needed_at jobs last))

  pub needed_whole : (places : List ℕ) (n : ℕ) → n ≡ length places
      → fold with_job_paths [] (jobs_needed_for jobs (take n places)) ≡ paths_used (jobs_needed_for jobs places)
  unfolding paths_used
  needed_whole places n is =
      ap (λ ps. fold with_job_paths [] (jobs_needed_for jobs ps)) (ap (λ k. take k places) is ∙ take-length places)

named_used : (jobs js : List Job) (o : Option ℕ) (n : ℕ) → js ≡ take n jobs → IfSome o (λ k. k < n) → n ≤ length jobs
    → fold with_job_paths (fold with_job_paths [] js) (same_as_jobs jobs o) ≡ fold with_job_paths [] js
named_used jobs js None n is earlier low = refl
named_used jobs js (Some k) n is earlier low =
    let any = single_job [] 0 [] in
    let inside : k < length js = omega (arith, ap length is, length-take n jobs) in
    let same : get_or js k any ≡ get_or jobs k any = ap (λ l. get_or l k any) is ∙ get_or-take n jobs k any earlier in
    ap (with_job_paths (fold with_job_paths [] js)) (sym same) ∙ job_used js k any inside

-- the paths for the first rows are those of the first jobs, since each names only earlier jobs
module _ (jobs : List Job) (are : AreValidJobs jobs) (places : List ℕ) (count : length places ≡ length jobs)
    (each : (k d : ℕ) → k < length places → get_or places k d ≡ k) where
  needed_first : (n : ℕ) → n ≤ length jobs
      → fold with_job_paths [] (jobs_needed_for jobs (take n places)) ≡ fold with_job_paths [] (take n jobs)
  needed_first zero low = refl
  needed_first (suc n) low =
      let any = single_job [] 0 [] in
      let next : n + 1 ≡ suc n = omega arith in
      let job : Job = get_or jobs n any in
      let more : take (suc n) jobs
      ≡ take n jobs ++ job ∷ [] = ap (λ k. take k jobs) (sym next) ∙ take_more jobs n any (omega arith) in
      let own : with_job_paths (fold with_job_paths [] (take n jobs)) job
      ≡ fold with_job_paths [] (take (suc n) jobs) =
      sym (ap (fold with_job_paths []) more ∙ fold-append with_job_paths [] (take n jobs) (job ∷ [])) in
      let earlier : IfSome job.same_as (λ k. k < suc n) =
      weaken job.same_as n (are.each n any (omega arith)).earlier in
      ap (λ k. fold with_job_paths [] (jobs_needed_for jobs (take k places))) (sym next)
      ∙ (needed_more jobs places n 0 (omega arith)
      ∙ (ap (λ p. fold with_job_paths (fold with_job_paths [] (jobs_needed_for jobs (take n places))) (jobs_needed_at jobs p))
      (each n 0 (omega arith))
      ∙ (ap (λ ps. fold with_job_paths ps (jobs_needed_at jobs n)) (needed_first n (omega arith))
      ∙ (ap (λ ps. fold with_job_paths ps (same_as_jobs jobs job.same_as)) own
      ∙ named_used jobs (take (suc n) jobs) job.same_as (suc n) refl earlier low))))
    where
      weaken : (o : Option ℕ) (n : ℕ) → IfSome o (λ k. k < n) → IfSome o (λ k. k < suc n)
      weaken None n h = tt
      weaken (Some k) n h = omega arith

  -- all rows need the paths of all jobs
  pub needed_all : paths_used (jobs_needed_for jobs places) ≡ paths_used jobs
  unfolding paths_used
  needed_all =
      let n = length jobs in
      sym (needed_whole jobs places n (sym count)) ∙ (needed_first n (omega arith)
      ∙ ap (fold with_job_paths []) (take-length jobs))
