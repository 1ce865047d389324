-- A job that passes as it stands ended as it expects, and each job has a candidate.
use Rattle.std.proofs.Common.{◌≡◌, ◌∙◌, ◌⊎◌, ◌<◌, ◌≤◌, ◌+◌, ◌∷◌, ◌++◌, ◌||◌, [], ℕ, zero, suc, Bool, true, false, List, Option, Some, None, ap, arith, get_or, inl, inr, is_some, length, refl, sym}
use Rattle.std.specs.Prelude.{if◌then◌else◌, option_to_list, slice_get}
use Rattle.std.proofs.lemmas.Option.{slice_get-get_or}
use Rattle.std.specs.List.{list_any}
use Rattle.rv_accept.specs.Passing.{HasExpectedEnd}
use Rattle.rv_accept.specs.declared.current_verdict.Candidate.{Candidate}
use Rattle.rv_accept.specs.declared.current_verdict.CurrentVerdict.TheVariants as current
use Rattle.rv_files.specs.Files.{FileContents}
use Rattle.rv_expect.specs.Comparisons.{ComparisonView}
use Rattle.rv_expect.specs.Reference.{signature_difference}
use Rattle.rv_expect.specs.UnmetExpectations.{is_same}
use Rattle.rv_expect.specs.Unmet.{unmet_console, unmet_default_exit, unmet_end, unmet_exit, unmet_expectations_of, unmet_of_expecting_job, unmet_same_as, unmet_signature}
use Rattle.rv_expect.specs.declared.unmet.UnmetExpectation.{UnmetExpectation}
use Rattle.rv_expect.specs.declared.unmet.UnmetExpectation.TheVariants as unmet
use Rattle.rv_rows.specs.declared_job.ExpectedEnd.{ExpectedEnd}
use Rattle.rv_rows.specs.declared_job.Job.{Job}
use Rattle.rv_rows.specs.declared_row.Row.{Row}
use Rattle.rv_rows.specs.declared_row.RowEnd.{RowEnd}
use Rattle.rv_rows.specs.Verdict.{did_run, has_expectations, has_expected_end, has_expected_exit}
use Rattle.rvtest_app.specs.CurrentVerdicts.{AreCandidates, IsCandidateAt, IsCurrentVerdict, verdict_by, verdict_of_comparison}

-- ---- nothing is unmet

differing : {A : Type 0} (same : Bool) → (if same then current.Differs else current.Fails) ≡ current.Passes → A
differing true is = cc
differing false is = cc

passes_by : (ran : Bool) (found : List UnmetExpectation) → verdict_by ran found ≡ current.Passes → (ran ≡ true) × (found ≡ [])
passes_by true [] is = (refl, refl)
passes_by true (one ∷ more) is = differing (list_any is_same (one ∷ more)) is
passes_by false found is = differing (list_any is_same found) is

none_of : (xs ys : List UnmetExpectation) → xs ++ ys ≡ [] → (xs ≡ []) × (ys ≡ [])
none_of [] ys is = (refl, is)
none_of (x ∷ xs) ys is = cc

is_met : (met : Bool) (one : UnmetExpectation) → option_to_list (if met then None else Some one) ≡ [] → met ≡ true
is_met true one is = refl
is_met false one is = cc

both_false : (a b : Bool) → (a || b) ≡ false → (a ≡ false) × (b ≡ false)
both_false true b is = cc
both_false false b is = (refl, is)

any_exit : (exit : Option ℕ) (end : RowEnd) → is_some exit ≡ false → has_expected_exit exit end ≡ true
any_exit None end is = refl
any_exit (Some code) end is = cc

any_end : (how : Option ExpectedEnd) (end : RowEnd) → is_some how ≡ false → has_expected_end how end ≡ true
any_end None end is = refl
any_end (Some how) end is = cc

pub ended_well : (comparison : ComparisonView) → verdict_of_comparison comparison ≡ current.Passes → HasExpectedEnd comparison.job comparison.row
unfolding unmet_expectations_of
ended_well comparison passes =
    let none = passes_by (did_run comparison.row.ending) (unmet_expectations_of comparison) passes in
    go (has_expectations comparison.job) refl none.0 (rw none.0 at none.1)
  where
    go : (asks : Bool) → has_expectations comparison.job ≡ asks → did_run comparison.row.ending ≡ true
        → (if asks then unmet_of_expecting_job comparison else option_to_list (unmet_default_exit comparison.row.ending)) ≡ []
        → HasExpectedEnd comparison.job comparison.row
    go true asks ran none =
        let exit = option_to_list (unmet_exit comparison.job comparison.row.ending) in
        let end = option_to_list (unmet_end comparison.job comparison.row.ending) in
        let console = option_to_list (unmet_console comparison.job comparison.console comparison.row) in
        let signature = option_to_list (unmet_signature
        (signature_difference comparison.job.expect_signature comparison.reference comparison.row.signature)) in
        let same = option_to_list (unmet_same_as comparison.job comparison.other comparison.row) in
        let four = none_of (exit ++ end ++ console ++ signature) same none in
        let three = none_of (exit ++ end ++ console) signature four.0 in
        let two = none_of (exit ++ end) console three.0 in
        let one = none_of exit end two.0 in
        record {
          ran = ran;
          exit = is_met (has_expected_exit comparison.job.expect_exit comparison.row.ending) unmet.Exit one.0;
          end = is_met (has_expected_end comparison.job.expect_end comparison.row.ending) unmet.End one.1;
        }
    go false asks ran none =
        let first = both_false (is_some comparison.job.expect_exit) _ asks in
        let second = both_false (is_some comparison.job.expect_end) _ first.1 in
        record {
          ran = ran;
          exit = any_exit comparison.job.expect_exit comparison.row.ending first.0;
          end = any_end comparison.job.expect_end comparison.row.ending second.0;
        }

-- ---- candidates, one more at a time

-- what stands in a list with one more at its end
last_or_before : {X : Type 0} (xs : List X) (last x : X) (index : ℕ) → slice_get (xs ++ last ∷ []) index ≡ Some x
    → (slice_get xs index ≡ Some x) ⊎ ((index ≡ length xs) × (last ≡ x))
last_or_before [] last x zero is = inr (refl, cc)
last_or_before [] last x (suc index) is = cc
last_or_before (y ∷ xs) last x zero is = inl is
last_or_before (y ∷ xs) last x (suc index) is = go (last_or_before xs last x index is)
  where
    go : (slice_get xs index ≡ Some x) ⊎ ((index ≡ length xs) × (last ≡ x))
        → (slice_get xs index ≡ Some x) ⊎ ((suc index ≡ suc (length xs)) × (last ≡ x))
    go (inl before) = inl before
    go (inr at) = inr (ap suc at.0, at.1)

one_more_count : {X : Type 0} (xs : List X) (last : X) → length (xs ++ last ∷ []) ≡ length xs + 1
one_more_count [] last = refl
one_more_count (x ∷ xs) last = omega (arith, one_more_count xs last)

some_same : {X : Type 0} (x y : X) → Some x ≡ Some y → x ≡ y
some_same x y is = cc

-- the first so many jobs have a candidate
pub record StandSoFar (contents : Option FileContents) (root : Option (List ℕ)) (rows : List (Option Row)) (jobs : List Job)
    (chosen : List Bool) (count : ℕ) (candidates : List Candidate) : Type 0 where
  pub counted : length candidates ≡ count
  pub within : count ≤ length jobs
  pub each : (index : ℕ) (job : Job) (candidate : Candidate) → slice_get jobs index ≡ Some job
      → slice_get candidates index ≡ Some candidate → IsCandidateAt contents root rows chosen index job candidate

pub one_more_stands : (contents : Option FileContents) (root : Option (List ℕ)) (rows : List (Option Row)) (jobs : List Job)
    (chosen : List Bool) (count index : ℕ) (before after : List Candidate) (job : Job) (candidate : Candidate)
    → StandSoFar contents root rows jobs chosen count before → count < length jobs → job ≡ get_or jobs count job
    → index ≡ length before → IsCandidateAt contents root rows chosen index job candidate → after ≡ before ++ candidate ∷ []
    → StandSoFar contents root rows jobs chosen (count + 1) after
one_more_stands contents root rows jobs chosen count index before after job candidate so below is at one added = record {
  counted = rw added (one_more_count before candidate ∙ ap (λ n. n + 1) so.counted);
  within = omega (arith, below);
  each = λ k other some there stands.
      go k other some there (last_or_before before candidate some k (rw added at stands));
}
  where
    here : slice_get jobs index ≡ Some job
    here = rw (at, so.counted) (slice_get-get_or jobs count job below ∙ ap Some (sym is))

    go : (k : ℕ) (other : Job) (some : Candidate) → slice_get jobs k ≡ Some other
        → (slice_get before k ≡ Some some) ⊎ ((k ≡ length before) × (candidate ≡ some))
        → IsCandidateAt contents root rows chosen k other some
    go k other some there (inl earlier) = so.each k other some there earlier
    go k other some there (inr last) =
        let same : k ≡ index = last.0 ∙ sym at in
        let same_job : job ≡ other = some_same job other (sym here ∙ (rw same at there)) in
        rw same (rw (← same_job) (rw (← last.1) one))

pub all_stand : (contents : Option FileContents) (root : Option (List ℕ)) (rows : List (Option Row)) (jobs : List Job)
    (chosen : List Bool) (count : ℕ) (candidates : List Candidate)
    → StandSoFar contents root rows jobs chosen count candidates → length jobs ≤ count
    → AreCandidates contents root rows jobs chosen candidates
all_stand contents root rows jobs chosen count candidates so all = record {
  same_length = let counted = so.counted in let within = so.within in omega (arith, counted, within, all);
  each = so.each;
}

pub none_stand : (contents : Option FileContents) (root : Option (List ℕ)) (rows : List (Option Row)) (jobs : List Job)
    (chosen : List Bool) → StandSoFar contents root rows jobs chosen 0 []
none_stand contents root rows jobs chosen = record {
  counted = refl;
  within = omega arith;
  each = λ index job candidate at stands. no_candidate index candidate stands;
}
  where
    no_candidate : {A : Type 0} (index : ℕ) (candidate : Candidate) → slice_get [] index ≡ Some candidate → A
    no_candidate index candidate is = cc

-- how the job stands that came to a row
pub stands_at : (contents : Option FileContents) (root : Option (List ℕ)) (rows : List (Option Row)) (jobs : List Job)
    (chosen : List Bool) (candidates : List Candidate) (index : ℕ) (job : Job) (row : Row) (candidate : Candidate)
    → AreCandidates contents root rows jobs chosen candidates → slice_get jobs index ≡ Some job
    → slice_get rows index ≡ Some (Some row) → slice_get candidates index ≡ Some candidate
    → IsCurrentVerdict contents root rows job row candidate.verdict
stands_at contents root rows jobs chosen candidates index job row candidate are at ran stands =
    rw ran at (are.each index job candidate at stands).1
