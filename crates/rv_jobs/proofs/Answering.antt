-- Answers by their paths, and the paths of jobs in order of first use.
use Rattle.std.proofs.Common.{◌≡◌, ◌∙◌, ◌+◌, ◌<◌, ◌++◌, Bool, true, false, ℕ, zero, suc, List}
use Rattle.std.proofs.Common.{[], ◌∷◌, Option, Some}
use Rattle.std.proofs.Common.{None, refl, ap, sym, length, option_map, cond, arith, subst, get_or, is_some}
use Rattle.std.specs.Prelude.{unwrap_or}
use Rattle.std.proofs.Common.{IfSome, option_and_then, map, length-append}
use Rattle.std.specs.List.{find}
use Rattle.std.specs.Str.{bytes_eq}
use Rattle.std.proofs.lemmas.List.{map-append, length-map}
use Rattle.std.proofs.lemmas.List.Sums.{sum_by-append}
use Rattle.std.proofs.lemmas.List.Elements.{All-push}
use Rattle.rv_lists.specs.declared.job.Job.{Job}
use Rattle.rv_jobs.specs.declared.kept.Kept.{Kept}
use Rattle.rv_jobs.specs.declared.kept.Kept.TheVariants.{Unreadable}
use Rattle.rv_jobs.specs.declared.path_results.PathResult.{PathResult}
use Rattle.rv_jobs.specs.declared.path_reading.ResultIndices.{ResultIndices}
use Rattle.rv_lists.specs.Names.{index_in}
use Rattle.rv_lists.specs.Files.{FileContents}
use Rattle.rv_jobs.specs.Kept.{AgreesWithContents, is_unreadable, faults_after_read}
use Rattle.rv_lists.specs.Counts.{one_more}
use Rattle.rv_lists.specs.Jobs.{console_path}
use Rattle.rv_jobs.specs.Plans.{paths_of, results_with, with_path, with_path_if_any, with_job_paths, result_of_path}
use Rattle.rv_jobs.specs.Plans.{AgreeWithContents, result_or_unreadable, unreadable_count, after_increments}
use Rattle.rv_jobs.specs.ResultIndices.{AreResultIndices, ArePartialResultIndices}
use Rattle.rv_lists.proofs.Public.{place_below, place_last}
use Rattle.std.proofs.lemmas.Slice.Eq.{bytes_eq-Decides}

-- ---- what is kept of a path

result_of_step : (b : Bool) (o : Option ℕ) (a : PathResult) (ans : List PathResult) (f : Option PathResult) (k : ℕ) (d : PathResult)
    → ((j : ℕ) → o ≡ Some j → option_map (λ (x : PathResult). x.kept) f ≡ Some (get_or ans j d).kept)
    → cond b (Some 0) (option_map (λ j. j + 1) o) ≡ Some k
    → option_map (λ (x : PathResult). x.kept) (cond b (Some a) f) ≡ Some (get_or (a ∷ ans) k d).kept
result_of_step true o a ans f k d ih e = let z : 0 ≡ k = cc in ap (λ j. Some (get_or (a ∷ ans) j d).kept) z
result_of_step false None a ans f k d ih e = cc
result_of_step false (Some j) a ans f k d ih e = let z : j + 1 ≡ k = cc in let s : suc j ≡ k = omega arith in ih j refl
    ∙ ap (λ i. Some (get_or (a ∷ ans) i d).kept) s

-- the result at the index of the path
pub result_at_index : (ans : List PathResult) (p : List ℕ) (k : ℕ) (d : PathResult) → index_in (paths_of ans) p ≡ Some k
    → result_of_path ans p ≡ Some (get_or ans k d).kept
unfolding index_in
result_at_index [] p k d e = cc
result_at_index (a ∷ ans) p k d e = result_of_step (bytes_eq p a.path) (index_in (paths_of ans) p) a ans
    (find (λ (x : PathResult). bytes_eq p x.path) ans) k d (λ j h. result_at_index ans p j d h) e

absent : (b : Bool) (o : Option ℕ) (a : PathResult) (f : Option PathResult)
    → (o ≡ None → option_map (λ (x : PathResult). x.kept) f ≡ None)
    → cond b (Some 0) (option_map (λ j. j + 1) o) ≡ None
    → option_map (λ (x : PathResult). x.kept) (cond b (Some a) f) ≡ None
absent true o a f ih e = cc
absent false None a f ih e = ih refl
absent false (Some k) a f ih e = cc

-- ---- paths beside what is kept of them

pub paths-with : (ps : List (List ℕ)) (ks : List Kept) → length ps ≡ length ks
    → paths_of (results_with ps ks) ≡ ps
paths-with [] ks e = refl
paths-with (p ∷ ps) [] e = absurd (omega arith)
paths-with (p ∷ ps) (k ∷ ks) e = ap (λ l. p ∷ l) (paths-with ps ks (omega arith))

pub kept-with : (ps : List (List ℕ)) (ks : List Kept) → length ps ≡ length ks
    → ks ≡ map (λ (a : PathResult). a.kept) (results_with ps ks)
kept-with [] [] e = refl
kept-with [] (k ∷ ks) e = absurd (omega arith)
kept-with (p ∷ ps) [] e = absurd (omega arith)
kept-with (p ∷ ps) (k ∷ ks) e = ap (λ l. k ∷ l) (kept-with ps ks (omega arith))

with-push : (ps : List (List ℕ)) (ks : List Kept) (p : List ℕ) (k : Kept) → length ps ≡ length ks
    → results_with (ps ++ p ∷ []) (ks ++ k ∷ []) ≡ results_with ps ks ++ record { path = p; kept = k } ∷ []
with-push [] [] p k e = refl
with-push [] (x ∷ xs) p k e = absurd (omega arith)
with-push (q ∷ qs) [] p k e = absurd (omega arith)
with-push (q ∷ qs) (x ∷ xs) p k e =
    ap (λ l. record { path = q; kept = x } ∷ l) (with-push qs xs p k (omega arith))

with-parts : (all : List PathResult) → results_with (paths_of all) (map (λ (a : PathResult). a.kept) all) ≡ all
with-parts [] = refl
with-parts (a ∷ rest) = ap (λ l. a ∷ l) (with-parts rest)

pub parts_whole : (all : List PathResult) (ps : List (List ℕ)) (ks : List Kept) → paths_of all ≡ ps
    → ks ≡ map (λ (a : PathResult). a.kept) all → results_with ps ks ≡ all
parts_whole all ps ks e f = (λ i. results_with (sym e i) (f i)) ∙ with-parts all

with-at : (ps : List (List ℕ)) (ks : List Kept) (i : ℕ) (d : PathResult) (k : Kept) → length ps ≡ length ks
    → i < length ks
    → (get_or (results_with ps ks) i d).kept ≡ get_or ks i k
with-at ps [] i d k e l = absurd (omega arith)
with-at [] (x ∷ xs) i d k e l = absurd (omega arith)
with-at (p ∷ ps) (x ∷ xs) zero d k e l = refl
with-at (p ∷ ps) (x ∷ xs) (suc i) d k e l = with-at ps xs i d k (omega arith) (omega arith)

-- ---- the paths of jobs

is_none_of : (o : Option ℕ) → is_some o ≡ false → o ≡ None
is_none_of None e = refl
is_none_of (Some k) e = cc

pub no_place : (xs : List (List ℕ)) (p : List ℕ) → is_some (index_in xs p) ≡ false → index_in xs p ≡ None
no_place xs p e = is_none_of (index_in xs p) e

pub with_path-old : (xs : List (List ℕ)) (p : List ℕ) → is_some (index_in xs p) ≡ true → xs ≡ with_path xs p
unfolding with_path
with_path-old xs p e = sym (ap (λ b. cond b xs (xs ++ p ∷ [])) e)

pub with_path-new : (xs : List (List ℕ)) (p : List ℕ) → is_some (index_in xs p) ≡ false
    → xs ++ p ∷ [] ≡ with_path xs p
unfolding with_path
with_path-new xs p e = sym (ap (λ b. cond b xs (xs ++ p ∷ [])) e)

module _ (xs : List (List ℕ)) (p : List ℕ) where
  found_still : (q : List ℕ) (k : ℕ) (b : Bool) → bytes_eq p q ≡ b → index_in xs p ≡ None
      → index_in xs q ≡ Some k
      → cond b (Some (length xs)) (index_in xs q) ≡ Some k
  found_still q k true e none h = let z : None ≡ Some k = sym none ∙ ap (index_in xs) ((bytes_eq-Decides p q).0 e)
      ∙ h in cc
  found_still q k false e none h = h

  found_in : (q : List ℕ) (k : ℕ) (b : Bool) → is_some (index_in xs p) ≡ b → index_in xs q ≡ Some k
      → index_in (with_path xs p) q ≡ Some k
  found_in q k true e h = ap (λ ys. index_in ys q) (sym (with_path-old xs p e)) ∙ h
  found_in q k false e h =
      ap (λ ys. index_in ys q) (sym (with_path-new xs p e)) ∙ place_last xs p q (no_place xs p e)
      ∙ found_still q k (bytes_eq p q) refl (no_place xs p e) h

  -- a path keeps its place
  pub keeps_place : (q : List ℕ) (k : ℕ) → index_in xs q ≡ Some k → index_in (with_path xs p) q ≡ Some k
  keeps_place q k h = found_in q k (is_some (index_in xs p)) refl h

-- ---- a path more

below_length : (o : Option ℕ) (k n m : ℕ) → n ≡ m → Some k ≡ o → IfSome o (λ j. j < n) → k < m
below_length None k n m e is h = cc
below_length (Some j) k n m e is h = let z : k ≡ j = cc in omega arith

-- the answers with one more
abbrev pub one_answer : List PathResult → List ℕ → Kept → List PathResult
one_answer old p kept = old ++ record { path = p; kept = kept } ∷ []

counted_at : (b : Bool) (n u before after : ℕ) → before ≡ after_increments n u → after ≡ cond b (one_more before) before
    → after ≡ after_increments n (u + cond b 1 0)
unfolding after_increments
counted_at true n u before after e f = f ∙ ap one_more e ∙ ap (after_increments n) (let s : suc u ≡ u + 1 = omega arith in s)
counted_at false n u before after e f = f ∙ e ∙ ap (after_increments n) (let s : u ≡ u + 0 = omega arith in s)

never_some : (o : Option ℕ) → ((k : ℕ) → o ≡ Some k → ⊥) → o ≡ None
never_some None h = refl
never_some (Some k) h = absurd (h k refl)

-- where the search that puts a path in found no place, it has none
pub not_placed : (xs : List (List ℕ)) (p : List ℕ) (found old : Option ℕ) → old ≡ index_in xs p
    → found ≡ old
    → ((k : ℕ) → found ≡ Some k → ⊥) → index_in xs p ≡ None
not_placed xs p found old is e never = sym is ∙ sym e ∙ never_some found never

-- a path that is new has the place behind the others
pub new_place : (xs ys : List (List ℕ)) (p : List ℕ) (at : ℕ) → index_in xs p ≡ None → ys ≡ xs ++ p ∷ []
    → at ≡ length xs → index_in ys p ≡ Some at
new_place xs ys p at none pushed is =
    let itself : bytes_eq p p ≡ true = (bytes_eq-Decides p p).1 refl in
    ap (λ zs. index_in zs p) pushed ∙ place_last xs p p none
    ∙ ap (λ b. cond b (Some (length xs)) (index_in xs p)) itself ∙ ap (λ k. Some k) (sym is)

-- the paths and what is kept of them, with one of each more
module _ (ps qs : List (List ℕ)) (ks ms : List Kept) (p : List ℕ) (kept : Kept) (even : length ps ≡ length ks)
    (pathed : qs ≡ ps ++ p ∷ []) (pushed : ms ≡ ks ++ kept ∷ []) (old : List PathResult)
    (view : results_with ps ks ≡ old) where
  pub still_even : length qs ≡ length ms
  still_even = omega (
    arith,
    ap length pathed,
    ap (length {A = Kept}) pushed,
    length-append ps (p ∷ []),
    length-append
        {A = Kept} ks (kept ∷ []),
  )

  grown : results_with qs ms ≡ one_answer old p kept
  grown = (λ i. results_with (pathed i) (pushed i)) ∙ with-push ps ks p kept even
      ∙ ap (λ (l : List PathResult). one_answer l p kept) view

  pub asked_paths : index_in ps p ≡ None → paths_of (results_with qs ms) ≡ with_path (paths_of old) p
  asked_paths none =
      let same_paths : paths_of old ≡ ps = ap paths_of (sym view) ∙ paths-with ps ks even in
      ap paths_of grown ∙ map-append (λ (x : PathResult). x.path) old (record { path = p; kept = kept } ∷ [])
      ∙ with_path-new (paths_of old) p (ap is_some (ap (λ l. index_in l p) same_paths ∙ none))

  pub asked_place : (at : ℕ) → index_in ps p ≡ None → at ≡ length ks
      → index_in (paths_of (results_with qs ms)) p ≡ Some at
  asked_place at none is =
      new_place ps (paths_of (results_with qs ms)) p at none (paths-with qs ms still_even ∙ pathed) (is ∙ sym even)

  pub asked_kept : (known : Option FileContents) → AgreesWithContents known p kept → AgreeWithContents known old
      → AgreeWithContents known (results_with qs ms)
  asked_kept known is before = subst (AgreeWithContents known) (sym grown)
      (All-push (λ (x : PathResult). AgreesWithContents known x.path x.kept) old (record { path = p; kept = kept }) before is)

  pub asked_faults : (n before after : ℕ) → before ≡ after_increments n (unreadable_count old)
      → after ≡ faults_after_read kept before
      → after ≡ after_increments n (unreadable_count (results_with qs ms))
  asked_faults n before after b f =
      let more_one : unreadable_count (one_answer old p kept) ≡ unreadable_count old + cond (is_unreadable kept) 1 0 =
      sum_by-append (λ (x : PathResult). cond (is_unreadable x.kept) 1 0) old (record { path = p; kept = kept } ∷ [])
      ∙ ap (λ k. unreadable_count old + k)
      (let z : 0 + cond (is_unreadable kept) 1 0 ≡ cond (is_unreadable kept) 1 0 = omega arith in z) in
      counted_at (is_unreadable kept) n (unreadable_count old) before after b f
      ∙ ap (after_increments n) (sym more_one ∙ sym (ap unreadable_count grown))

-- ---- the places of a job's answers

with_path_if_any-place : (xs : List (List ℕ)) (o : Option (List ℕ)) (q : List ℕ) (k : ℕ)
    → index_in xs q ≡ Some k
    → index_in (with_path_if_any xs o) q ≡ Some k
with_path_if_any-place xs None q k h = h
with_path_if_any-place xs (Some p) q k h = keeps_place xs p q k h

with_job_paths-place : (xs : List (List ℕ)) (j : Job) (q : List ℕ) (k : ℕ) → index_in xs q ≡ Some k
    → index_in (with_job_paths xs j) q ≡ Some k
with_job_paths-place xs j q k h =
    with_path_if_any-place (with_path_if_any (with_path xs j.image) j.expect_signature) (console_path j.expect_console) q k
    (with_path_if_any-place (with_path xs j.image) j.expect_signature q k (keeps_place xs j.image q k h))

reference_later : (xs ys : List (List ℕ))
    → ((q : List ℕ) (k : ℕ) → index_in xs q ≡ Some k → index_in ys q ≡ Some k)
    → (o : Option (List ℕ)) (r : Option ℕ)
    → option_map (index_in xs) o ≡ option_map (λ k. Some k) r
    → option_map (index_in ys) o ≡ option_map (λ k. Some k) r
reference_later xs ys still None None e = refl
reference_later xs ys still None (Some k) e = cc
reference_later xs ys still (Some q) None e = cc
reference_later xs ys still (Some q) (Some k) e = let h : index_in xs q ≡ Some k = cc in
    ap (λ o. Some o) (still q k h)

-- the answers of one job more leave the places of a job as they are
pub placed_later : (xs : List (List ℕ)) (other job : Job) (at : ResultIndices) → AreResultIndices xs job at
    → AreResultIndices (with_job_paths xs other) job at
placed_later xs other job at h = record {
  image = with_job_paths-place xs other job.image at.image h.image;
  reference =
      reference_later xs (with_job_paths xs other) (with_job_paths-place xs other) job.expect_signature at.reference h.reference;
  console =
      reference_later xs (with_job_paths xs other) (with_job_paths-place xs other) (console_path job.expect_console) at.console
      h.console;
}

-- the places of a job, whose paths are asked for one after the other
pub placed_all : (xs ys zs : List (List ℕ)) (job : Job) (image : ℕ) (reference console : Option ℕ) (p : List ℕ)
    (r c : Option (List ℕ)) → p ≡ job.image → r ≡ job.expect_signature
    → c ≡ console_path job.expect_console
    → index_in xs p ≡ Some image
    → ys ≡ with_path_if_any xs r → option_map (index_in ys) r ≡ option_map (λ k. Some k) reference
    → zs ≡ with_path_if_any ys c → option_map (index_in zs) c ≡ option_map (λ k. Some k) console
    → AreResultIndices zs job (record { image = image; reference = reference; console = console })
placed_all xs ys zs job image reference console p r c is_p is_r is_c found grown there after_increments last =
    let later : (q : List ℕ) (k : ℕ) → index_in xs q ≡ Some k → index_in ys q ≡ Some k =
    λ q k h. ap (λ ws. index_in ws q) grown ∙ with_path_if_any-place xs r q k h in
    let last_too : (q : List ℕ) (k : ℕ) → index_in ys q ≡ Some k → index_in zs q ≡ Some k =
    λ q k h. ap (λ ws. index_in ws q) after_increments ∙ with_path_if_any-place ys c q k h in
    record {
      image = last_too job.image image (later job.image image (ap (index_in xs) (sym is_p) ∙ found));
      reference = ap (option_map (index_in zs)) (sym is_r) ∙ reference_later ys zs last_too r reference there;
      console = ap (option_map (index_in zs)) (sym is_c) ∙ last;
    }

-- ---- the answers of a plan

place_within : (xs : List (List ℕ)) (q : List ℕ) (k n : ℕ) → length xs ≡ n → index_in xs q ≡ Some k
    → k < n
place_within xs q k n e is = below_length (index_in xs q) k (length xs) n e (sym is) (place_below xs q)

kept_there : (ps : List (List ℕ)) (ks : List Kept) (q : List ℕ) (k : ℕ) (x : Kept) → length ps ≡ length ks
    → index_in ps q ≡ Some k → x ≡ get_or ks k x → result_of_path (results_with ps ks) q ≡ Some x
kept_there ps ks q k x even found is =
    let d : PathResult = record { path = q; kept = x } in
    result_at_index (results_with ps ks) q k d (ap (λ l. index_in l q) (paths-with ps ks even) ∙ found)
    ∙ ap (λ (y : Kept). Some y) (with-at ps ks k d x even (place_within ps q k (length ks) even found) ∙ sym is)

-- a path that has no place has no answer
pub kept_none : (ans : List PathResult) (p : List ℕ) → index_in (paths_of ans) p ≡ None → result_of_path ans p ≡ None
unfolding index_in
kept_none [] p e = refl
kept_none (a ∷ ans) p e = absent (bytes_eq p a.path) (index_in (paths_of ans) p) a
    (find (λ (x : PathResult). bytes_eq p x.path) ans) (kept_none ans p) e

-- what is kept of the path that has this place, or none
module _ (all : List PathResult) (ps : List (List ℕ)) (ks : List Kept) (even : length ps ≡ length ks)
    (view : results_with ps ks ≡ all) (at : Option ℕ) where
  pub kept_below : (k : ℕ) → at ≡ Some k → IfSome at (λ j. j < length all) → k < length ks
  kept_below k is within =
      let below : k < length all = subst (λ o. IfSome o (λ j. j < length all)) is within in
      omega (
        arith,
        below,
        ap length (sym view),
        ap (length {A = Kept}) (kept-with ps ks even),
        length-map (results_with ps ks) (λ (a : PathResult). a.kept),
      )

  same_place : (p : List ℕ) → index_in (paths_of all) p ≡ at → index_in ps p ≡ at
  same_place p placed = ap (λ l. index_in l p) (sym (paths-with ps ks even) ∙ ap paths_of view) ∙ placed

  pub kept_in : (k : ℕ) (x : Kept) (p : List ℕ) → at ≡ Some k → x ≡ get_or ks k x
      → index_in (paths_of all) p ≡ at
      → x ≡ result_or_unreadable all p
  kept_in k x p is there placed =
      sym (ap (λ (a : List PathResult). result_or_unreadable a p) (sym view)
      ∙ ap (λ o. unwrap_or o Unreadable) (kept_there ps ks p k x even (same_place p placed ∙ is) there))

  pub kept_not_in : (x : Kept) (p : List ℕ) → at ≡ None → x ≡ Unreadable → index_in (paths_of all) p ≡ at
      → x ≡ result_or_unreadable all p
  kept_not_in x p is unread placed =
      unread ∙ sym (ap (λ o. unwrap_or o Unreadable) (kept_none all p (placed ∙ is)))

-- the place of a path that has an answer is one of theirs
pub path_below : (all : List PathResult) (ps : List (List ℕ)) (ks : List Kept) → length ps ≡ length ks
    → results_with ps ks ≡ all → (p : List ℕ) (at : Option ℕ) → index_in ps p ≡ at
    → IfSome at (λ k. k < length all)
path_below all ps ks even view p at placed =
    subst (λ o. IfSome o (λ k. k < length all)) placed
    (subst (λ n. IfSome (index_in ps p) (λ k. k < n))
    (sym (ap length (paths-with ps ks even)) ∙ length-map (results_with ps ks) (λ (a : PathResult). a.path)
    ∙ ap length view)
    (place_below ps p))

-- the places of the paths of a job that was asked for
found_if : (xs : List (List ℕ)) (o : Option (List ℕ)) (r : Option ℕ)
    → option_map (index_in xs) o ≡ option_map (λ k. Some k) r → option_and_then (index_in xs) o ≡ r
found_if xs None None e = refl
found_if xs None (Some k) e = cc
found_if xs (Some q) None e = cc
found_if xs (Some q) (Some k) e = cc

pub placed_found : (xs : List (List ℕ)) (job : Job) (at : ResultIndices) → AreResultIndices xs job at
    → ArePartialResultIndices xs job (record { image = Some at.image; reference = at.reference; console = at.console })
placed_found xs job at h = record {
  image = h.image;
  reference = found_if xs job.expect_signature at.reference h.reference;
  console = found_if xs (console_path job.expect_console) at.console h.console;
}

-- ---- the loop over jobs

module _ (ans : List PathResult) (e : ans ≡ []) where
  pub start_kept : (known : Option FileContents) → AgreeWithContents known ans
  start_kept known = subst (AgreeWithContents known) (sym e) (λ k d l. absurd (omega arith))

  pub start_faults : (n : ℕ) → n ≡ after_increments n (unreadable_count ans)
  unfolding after_increments
  start_faults n = ap (λ a. after_increments n (unreadable_count a)) (sym e)
