-- The golden files of claims and of targets are those that jobs name.
use Rattle.std.proofs.Common.{◌≡◌, ◌+◌, ◌++◌, ◌∷◌, [], ◌||◌, ◌&&◌, ℕ, Bool, true, false, List, Option, Some, None, refl, fold}
use Rattle.std.specs.Prelude.{if◌then◌else◌, not, slice_get}
use Rattle.std.specs.List.{All, list_any}
use Rattle.std.specs.Str.{bytes_eq}
use Rattle.std.proofs.lemmas.List.Elements.{All-append, All-cons, All-head, All-nil, All-tail}
use Rattle.std.proofs.lemmas.Slice.Eq.{bytes_eq-Decides}
use Rattle.rv_rows.specs.Jobs.{console_path}
use Rattle.rv_rows.specs.declared_job.Job.{Job}
use Rattle.rv_accept.specs.GoldenTexts.{golden_text_if_named, golden_texts_of_run, golden_texts_of_runs}
use Rattle.rv_accept.specs.Sharing.{is_same_path, names_golden_file}
use Rattle.rv_accept.specs.Targets.{is_accepted_entry, has_target, target_of, with_target}
use Rattle.rv_accept.specs.declared.golden_texts.GoldenText.{GoldenText}
use Rattle.rv_accept.specs.declared.golden_texts.GoldenKind.{GoldenKind}
use Rattle.rv_accept.specs.declared.runs.JobRun.{JobRun}
use Rattle.rv_accept.specs.declared.targets.Target.{Target}

-- some job names the file of a claim
abbrev OfClaim : List Job → GoldenText → Type 0
OfClaim jobs golden_text = list_any (names_golden_file golden_text.path) jobs ≡ true

-- some job names the file of a target
abbrev OfTarget : List Job → Target → Type 0
OfTarget jobs target = list_any (names_golden_file target.path) jobs ≡ true

or_left : (a b : Bool) → a ≡ true → (a || b) ≡ true
or_left a b holds = rw holds refl

or_right : (a b : Bool) → b ≡ true → (a || b) ≡ true
or_right true b holds = refl
or_right false b holds = holds

same_bytes : (bytes : List ℕ) → bytes_eq bytes bytes ≡ true
same_bytes bytes = (bytes_eq-Decides bytes bytes).1 refl

if_named : (jobs : List Job) (index : ℕ) (kind : GoldenKind) (text path : Option (List ℕ))
    → ((named : List ℕ) → path ≡ Some named → list_any (names_golden_file named) jobs ≡ true)
    → All (OfClaim jobs) (golden_text_if_named index kind text path)
if_named jobs index kind text None names = All-nil (OfClaim jobs)
if_named jobs index kind text (Some path) names =
    All-cons (OfClaim jobs) _ [] (names path refl) (All-nil (OfClaim jobs))

of_run : (jobs : List Job) (index : ℕ) (job : Job) (run : Option JobRun)
    → All (OfClaim (job ∷ jobs)) (golden_texts_of_run index job run)
of_run jobs index job None = All-nil (OfClaim (job ∷ jobs))
of_run jobs index job (Some run) = All-append (OfClaim (job ∷ jobs)) _ _
    (if_named (job ∷ jobs) index _ _ (console_path job.expect_console)
    (λ path is. or_left (names_golden_file path job) _
    (or_left (is_same_path path (console_path job.expect_console)) _ (rw is (same_bytes path)))))
    (if_named (job ∷ jobs) index _ _ job.expect_signature
    (λ path is. or_left (names_golden_file path job) _
    (or_right (is_same_path path (console_path job.expect_console)) _ (rw is (same_bytes path)))))

one_more_job : (job : Job) (jobs : List Job) (golden_texts : List GoldenText) → All (OfClaim jobs) golden_texts
    → All (OfClaim (job ∷ jobs)) golden_texts
one_more_job job jobs golden_texts each = λ index golden_text below. or_right _ _ (each index golden_text below)

of_runs : (index : ℕ) (jobs : List Job) (runs : List (Option JobRun))
    → All (OfClaim jobs) (golden_texts_of_runs index jobs runs)
unfolding golden_texts_of_runs
of_runs index [] runs = All-nil (OfClaim [])
of_runs index (job ∷ jobs) [] = All-nil (OfClaim (job ∷ jobs))
of_runs index (job ∷ jobs) (run ∷ runs) = All-append (OfClaim (job ∷ jobs)) _ _ (of_run jobs index job run)
    (one_more_job job jobs _ (of_runs (index + 1) jobs runs))

one_more_target : (jobs : List Job) (runs : List (Option JobRun)) (golden_texts : List GoldenText) (targets : List Target)
    (golden_text : GoldenText) → All (OfTarget jobs) targets → OfClaim jobs golden_text
    → All (OfTarget jobs) (with_target runs golden_texts targets golden_text)
one_more_target jobs runs golden_texts targets golden_text each is =
    go (is_accepted_entry (slice_get runs golden_text.job) && not (has_target golden_text.path targets))
  where
    go : (added : Bool) → All (OfTarget jobs) (if added then targets ++ target_of golden_texts golden_text ∷ [] else targets)
    go true = All-append (OfTarget jobs) targets _ each
        (All-cons (OfTarget jobs) (target_of golden_texts golden_text) [] is (All-nil (OfTarget jobs)))
    go false = each

of_claims : (jobs : List Job) (runs : List (Option JobRun)) (golden_texts rest : List GoldenText) (targets : List Target)
    → All (OfTarget jobs) targets → All (OfClaim jobs) rest
    → All (OfTarget jobs) (fold (with_target runs golden_texts) targets rest)
of_claims jobs runs golden_texts [] targets each are = each
of_claims jobs runs golden_texts (golden_text ∷ rest) targets each are =
    of_claims jobs runs golden_texts rest (with_target runs golden_texts targets golden_text)
    (one_more_target jobs runs golden_texts targets golden_text each (All-head (OfClaim jobs) golden_text rest are))
    (All-tail (OfClaim jobs) golden_text rest are)

-- a target is a golden file of some job
pub targets_are_of_jobs : (jobs : List Job) (runs : List (Option JobRun))
    → All (λ (target : Target). list_any (names_golden_file target.path) jobs ≡ true)
    (fold (with_target runs (golden_texts_of_runs 0 jobs runs)) [] (golden_texts_of_runs 0 jobs runs))
targets_are_of_jobs jobs runs = of_claims jobs runs (golden_texts_of_runs 0 jobs runs) (golden_texts_of_runs 0 jobs runs) []
    (All-nil (OfTarget jobs)) (of_runs 0 jobs runs)
