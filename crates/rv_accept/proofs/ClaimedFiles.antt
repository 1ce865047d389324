-- Each golden file that an accepted job names is a target.
use Rattle.std.proofs.Common.{◌≡◌, ◌∙◌, ◌+◌, ◌++◌, ◌∷◌, [], ℕ, zero, suc, Bool, true, false, ◌&&◌, ◌||◌, List, Option, Some, None, All, arith, fold, is_some, not, refl, subst, sym}
use Rattle.std.specs.Prelude.{if◌then◌else◌, slice_get}
use Rattle.std.specs.List.{list_any}
use Rattle.std.specs.Str.{bytes_eq}
use Rattle.std.proofs.lemmas.Bool.{false≢true}
use Rattle.std.proofs.lemmas.List.Elements.{All-append, All-cons, All-head, All-nil}
use Rattle.std.proofs.lemmas.Slice.Eq.{bytes_eq-Decides}
use Rattle.rv_rows.specs.Jobs.{console_path}
use Rattle.rv_rows.specs.declared_job.Job.{Job}
use Rattle.rv_rows.specs.Verdict.{lines_of_signature}
use Rattle.rv_accept.proofs.Elements.{all_left, all_right, any_last, any_left, none_passes}
use Rattle.rv_accept.specs.GoldenTexts.{golden_text_if_named, golden_texts_of_run, golden_texts_of_runs, text_if}
use Rattle.rv_accept.specs.GoldenOutcomes.{outcome_of_golden_file, is_for_file}
use Rattle.rv_accept.specs.Runs.{is_accepted_run}
use Rattle.rv_accept.specs.Targets.{is_accepted_entry, has_target, target_of, with_target}
use Rattle.rv_accept.specs.declared.golden_texts.GoldenText.{GoldenText}
use Rattle.rv_accept.specs.declared.golden_texts.GoldenKind.{GoldenKind}
use Rattle.rv_accept.specs.declared.golden_texts.GoldenKind.TheVariants as kinds
use Rattle.rv_accept.specs.declared.runs.JobRun.{JobRun}
use Rattle.rv_accept.specs.declared.targets.Target.{Target}

-- ---- the claims of one job among all

module _ (P : GoldenText → Type 0) where
  -- what holds of all claims holds of those of each job
  run_among : (from index : ℕ) (jobs : List Job) (runs : List (Option JobRun)) (job : Job) (run : Option JobRun)
      → All P (golden_texts_of_runs from jobs runs) → slice_get jobs index ≡ Some job → slice_get runs index ≡ Some run
      → All P (golden_texts_of_run (from + index) job run)
  unfolding golden_texts_of_runs
  run_among from index [] runs job run each at ran = cc
  run_among from index (other ∷ jobs) [] job run each at ran = cc
  run_among from zero (other ∷ jobs) (first ∷ runs) job run each at ran =
      let same_job : other ≡ job = cc in
      let same_run : first ≡ run = cc in
      let here : from + 0 ≡ from = omega arith in
      rw (here, ← same_job, ← same_run) (all_left P (golden_texts_of_run from other first) _ each)
  run_among from (suc index) (other ∷ jobs) (first ∷ runs) job run each at ran =
      let there : from + suc index ≡ from + 1 + index = omega arith in
      rw there (run_among (from + 1) index jobs runs job run
      (all_right P (golden_texts_of_run from other first) (golden_texts_of_runs (from + 1) jobs runs) each) at ran)

  -- and of that on a file that is named
  claim_named : (index : ℕ) (kind : GoldenKind) (text : Option (List ℕ)) (named : Option (List ℕ)) (path : List ℕ)
      → named ≡ Some path → All P (golden_text_if_named index kind text named)
      → P (record { job = index; kind = kind; path = path; text = text })
  claim_named index kind text None path is each = cc
  claim_named index kind text (Some other) path is each =
      let same : other ≡ path = cc in
      subst (λ path. P (record { job = index; kind = kind; path = path; text = text })) same (All-head P _ [] each)

-- the claim of an accepted job on the file of its console
abbrev pub console_claim : ℕ → JobRun → List ℕ → GoldenText
console_claim index run path = record { job = index; kind = kinds.Console; path = path; text = Some run.row.console }

-- and on that of its signature
abbrev pub signature_claim : ℕ → JobRun → List ℕ → GoldenText
signature_claim index run path =
    record { job = index; kind = kinds.Signature; path = path; text = Some (lines_of_signature run.row.signature) }

none_left : (run : JobRun) → is_accepted_run run ≡ true → not (is_some run.skip_reason) ≡ true
none_left run accepted = go run.is_chosen accepted
  where
    go : (chosen : Bool) → (chosen && not (is_some run.skip_reason)) ≡ true → not (is_some run.skip_reason) ≡ true
    go true is = is
    go false is = cc

given : (run : JobRun) (text : List ℕ) → is_accepted_run run ≡ true → text_if (not (is_some run.skip_reason)) text ≡ Some text
given run text accepted = rw (none_left run accepted) refl

among_first : (P : GoldenText → Type 0) (index : ℕ) (jobs : List Job) (runs : List (Option JobRun)) (job : Job)
    (run : JobRun) → All P (golden_texts_of_runs 0 jobs runs) → slice_get jobs index ≡ Some job
    → slice_get runs index ≡ Some (Some run) → All P (golden_texts_of_run index job (Some run))
among_first P index jobs runs job run each at ran =
    let here : 0 + index ≡ index = omega arith in
    rw here at (run_among P 0 index jobs runs job (Some run) each at ran)

pub console_claim_among : (P : GoldenText → Type 0) (index : ℕ) (jobs : List Job) (runs : List (Option JobRun)) (job : Job)
    (run : JobRun) (path : List ℕ) → All P (golden_texts_of_runs 0 jobs runs) → slice_get jobs index ≡ Some job
    → slice_get runs index ≡ Some (Some run) → is_accepted_run run ≡ true
    → console_path job.expect_console ≡ Some path → P (console_claim index run path)
console_claim_among P index jobs runs job run path each at ran accepted named =
    let text = text_if (not (is_some run.skip_reason)) run.row.console in
    let rest = golden_text_if_named index kinds.Signature
    (text_if (not (is_some run.skip_reason)) (lines_of_signature run.row.signature)) job.expect_signature in
    subst (λ text. P (record { job = index; kind = kinds.Console; path = path; text = text }))
    (given run run.row.console accepted)
    (claim_named P index kinds.Console text (console_path job.expect_console) path named
    (all_left P (golden_text_if_named index kinds.Console text (console_path job.expect_console)) rest
    (among_first P index jobs runs job run each at ran)))

pub signature_claim_among : (P : GoldenText → Type 0) (index : ℕ) (jobs : List Job) (runs : List (Option JobRun)) (job : Job)
    (run : JobRun) (path : List ℕ) → All P (golden_texts_of_runs 0 jobs runs) → slice_get jobs index ≡ Some job
    → slice_get runs index ≡ Some (Some run) → is_accepted_run run ≡ true
    → job.expect_signature ≡ Some path → P (signature_claim index run path)
signature_claim_among P index jobs runs job run path each at ran accepted named =
    let lines = lines_of_signature run.row.signature in
    let text = text_if (not (is_some run.skip_reason)) lines in
    let first = golden_text_if_named index kinds.Console (text_if (not (is_some run.skip_reason)) run.row.console)
    (console_path job.expect_console) in
    subst (λ text. P (record { job = index; kind = kinds.Signature; path = path; text = text }))
    (given run lines accepted)
    (claim_named P index kinds.Signature text job.expect_signature path named
    (all_right P first (golden_text_if_named index kinds.Signature text job.expect_signature)
    (among_first P index jobs runs job run each at ran)))

-- ---- targets

-- a target stays one
one_more_stays : (path : List ℕ) (runs : List (Option JobRun)) (golden_texts : List GoldenText) (targets : List Target)
    (golden_text : GoldenText) → has_target path targets ≡ true → has_target path (with_target runs golden_texts targets golden_text) ≡ true
one_more_stays path runs golden_texts targets golden_text is =
    go (is_accepted_entry (slice_get runs golden_text.job) && not (has_target golden_text.path targets))
  where
    go : (added : Bool) → has_target path (if added then targets ++ target_of golden_texts golden_text ∷ [] else targets) ≡ true
    go true = any_left (λ target. bytes_eq path target.path) targets _ is
    go false = is

stays : (path : List ℕ) (runs : List (Option JobRun)) (golden_texts rest : List GoldenText) (targets : List Target)
    → has_target path targets ≡ true → has_target path (fold (with_target runs golden_texts) targets rest) ≡ true
stays path runs golden_texts [] targets is = is
stays path runs golden_texts (golden_text ∷ rest) targets is = stays path runs golden_texts rest (with_target runs golden_texts targets golden_text)
    (one_more_stays path runs golden_texts targets golden_text is)

-- a claim of an accepted job on a file
abbrev is_accepted_claim : List (Option JobRun) → List ℕ → GoldenText → Bool
is_accepted_claim runs path golden_text = is_for_file path golden_text && is_accepted_entry (slice_get runs golden_text.job)

both : (a b : Bool) → (a && b) ≡ true → (a ≡ true) × (b ≡ true)
both true true holds = (refl, refl)
both true false holds = cc
both false b holds = cc

-- makes its file a target
added : (path : List ℕ) (runs : List (Option JobRun)) (golden_texts : List GoldenText) (targets : List Target) (golden_text : GoldenText)
    → is_accepted_claim runs path golden_text ≡ true → has_target path (with_target runs golden_texts targets golden_text) ≡ true
added path runs golden_texts targets golden_text is = go (has_target golden_text.path targets) refl
  where
    parts : (is_for_file path golden_text ≡ true) × (is_accepted_entry (slice_get runs golden_text.job) ≡ true)
    parts = both (is_for_file path golden_text) _ is

    same : path ≡ golden_text.path
    same = (bytes_eq-Decides path golden_text.path).0 parts.0

    go : (there : Bool) → has_target golden_text.path targets ≡ there
        → has_target path (if is_accepted_entry (slice_get runs golden_text.job) && not there
        then targets ++ target_of golden_texts golden_text ∷ [] else targets) ≡ true
    go true is = rw parts.1 (rw same is)
    go false is = rw parts.1 (any_last (λ target. bytes_eq path target.path) targets (target_of golden_texts golden_text) parts.0)

becomes : (path : List ℕ) (runs : List (Option JobRun)) (golden_texts rest : List GoldenText) (targets : List Target)
    → list_any (is_accepted_claim runs path) rest ≡ true
    → has_target path (fold (with_target runs golden_texts) targets rest) ≡ true
becomes path runs golden_texts [] targets some = cc
becomes path runs golden_texts (golden_text ∷ rest) targets some = go (is_accepted_claim runs path golden_text) refl
    (becomes path runs golden_texts rest (with_target runs golden_texts targets golden_text)) some
  where
    go : (passes : Bool) → is_accepted_claim runs path golden_text ≡ passes
        → (list_any (is_accepted_claim runs path) rest ≡ true
        → has_target path (fold (with_target runs golden_texts) (with_target runs golden_texts targets golden_text) rest) ≡ true)
        → (passes || list_any (is_accepted_claim runs path) rest) ≡ true
        → has_target path (fold (with_target runs golden_texts) (with_target runs golden_texts targets golden_text) rest) ≡ true
    go true is behind some =
        stays path runs golden_texts rest (with_target runs golden_texts targets golden_text) (added path runs golden_texts targets golden_text is)
    go false is behind some = behind some

-- a claim that cannot be missing is there
found : {X : Type 0} (test : X → Bool) (xs : List X) (x : X) → (All (λ x. test x ≡ false) xs → test x ≡ false)
    → test x ≡ true → list_any test xs ≡ true
found test xs x missing passes = go (list_any test xs) refl
  where
    go : (some : Bool) → list_any test xs ≡ some → some ≡ true
    go true is = refl
    go false is = absurd (false≢true (sym (missing (none_passes test xs is)) ∙ passes))

-- the test that a claim of an accepted job passes
accepted_claim : (runs : List (Option JobRun)) (index : ℕ) (run : JobRun) (path : List ℕ)
    → slice_get runs index ≡ Some (Some run) → is_accepted_run run ≡ true
    → (bytes_eq path path && is_accepted_entry (slice_get runs index)) ≡ true
accepted_claim runs index run path ran accepted = rw ((bytes_eq-Decides path path).1 refl) (rw ran accepted)

-- the file of an accepted job's console is a target
pub console_is_target : (index : ℕ) (jobs : List Job) (runs : List (Option JobRun)) (job : Job) (run : JobRun)
    (path : List ℕ) → slice_get jobs index ≡ Some job → slice_get runs index ≡ Some (Some run)
    → is_accepted_run run ≡ true → console_path job.expect_console ≡ Some path
    → has_target path (fold (with_target runs (golden_texts_of_runs 0 jobs runs)) [] (golden_texts_of_runs 0 jobs runs)) ≡ true
console_is_target index jobs runs job run path at ran accepted named =
    becomes path runs (golden_texts_of_runs 0 jobs runs) (golden_texts_of_runs 0 jobs runs) []
    (found (is_accepted_claim runs path) (golden_texts_of_runs 0 jobs runs) (console_claim index run path)
    (λ missing. console_claim_among (λ golden_text. is_accepted_claim runs path golden_text ≡ false) index jobs runs job run path missing at ran accepted named)
    (accepted_claim runs index run path ran accepted))

-- and so is that of its signature
pub signature_is_target : (index : ℕ) (jobs : List Job) (runs : List (Option JobRun)) (job : Job) (run : JobRun)
    (path : List ℕ) → slice_get jobs index ≡ Some job → slice_get runs index ≡ Some (Some run)
    → is_accepted_run run ≡ true → job.expect_signature ≡ Some path
    → has_target path (fold (with_target runs (golden_texts_of_runs 0 jobs runs)) [] (golden_texts_of_runs 0 jobs runs)) ≡ true
signature_is_target index jobs runs job run path at ran accepted named =
    becomes path runs (golden_texts_of_runs 0 jobs runs) (golden_texts_of_runs 0 jobs runs) []
    (found (is_accepted_claim runs path) (golden_texts_of_runs 0 jobs runs) (signature_claim index run path)
    (λ missing. signature_claim_among (λ golden_text. is_accepted_claim runs path golden_text ≡ false) index jobs runs job run path missing at ran accepted named)
    (accepted_claim runs index run path ran accepted))

-- ---- fates

-- the fate of a target is that of its file
abbrev HasFate : List GoldenText → Target → Type 0
HasFate golden_texts target = target.outcome ≡ outcome_of_golden_file target.path golden_texts

one_more_fate : (runs : List (Option JobRun)) (golden_texts : List GoldenText) (targets : List Target) (golden_text : GoldenText)
    → All (HasFate golden_texts) targets → All (HasFate golden_texts) (with_target runs golden_texts targets golden_text)
one_more_fate runs golden_texts targets golden_text each =
    go (is_accepted_entry (slice_get runs golden_text.job) && not (has_target golden_text.path targets))
  where
    go : (added : Bool) → All (HasFate golden_texts) (if added then targets ++ target_of golden_texts golden_text ∷ [] else targets)
    go true = All-append (HasFate golden_texts) targets _ each
        (All-cons (HasFate golden_texts) (target_of golden_texts golden_text) [] refl (All-nil (HasFate golden_texts)))
    go false = each

pub targets_have_fates : (runs : List (Option JobRun)) (golden_texts rest : List GoldenText) (targets : List Target)
    → All (λ (target : Target). target.outcome ≡ outcome_of_golden_file target.path golden_texts) targets
    → All (λ (target : Target). target.outcome ≡ outcome_of_golden_file target.path golden_texts) (fold (with_target runs golden_texts) targets rest)
targets_have_fates runs golden_texts [] targets each = each
targets_have_fates runs golden_texts (golden_text ∷ rest) targets each = targets_have_fates runs golden_texts rest _
    (one_more_fate runs golden_texts targets golden_text each)
