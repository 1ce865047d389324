-- Stops of accepting runs, handed on.
use Rattle.std.proofs.Common.{◌≡◌, ◌⊎◌, ◌<◌, ◌∷◌, [], ℕ, List, Option, fold, get_or, inl, inr, length, refl, ⊎_elim}
use Rattle.std.specs.List.{All, Any}
use Rattle.std.proofs.lemmas.List.{get_or_default}
use Rattle.std.proofs.lemmas.List.Elements.{All-cons, All-head, All-nil, All-tail}
use Rattle.rv_accept.proofs.Public.{targets_are_of_jobs}
use Rattle.rv_accept.specs.GoldenTexts.{golden_texts_of_runs}
use Rattle.rv_accept.specs.Targets.{with_target}
use Rattle.rv_accept.specs.declared.golden_texts.GoldenText.{GoldenText}
use Rattle.rv_accept.specs.declared.runs.JobRun.{JobRun}
use Rattle.rv_accept.specs.declared.targets.Target.{Target}
use Rattle.rv_accept_text.specs.declared.golden_file.GoldenFile.{GoldenFile}
use Rattle.rv_files.specs.Files.{FileContents}
use Rattle.rvtest_cli.specs.declared.accept.AcceptArgs.{AcceptArgs}
use Rattle.rv_command.specs.Texts.{optional_text}
use Rattle.rv_command.specs.declared.stop.Stop.{Stop}
use Rattle.rv_files.specs.UnreadablePaths.{resolved_path}
use Rattle.rv_rows.specs.declared_job.Job.{Job}
use Rattle.rvtest_app.specs.AcceptStops.{IsTargetsUnreadStop, IsAcceptingStop, IsListOrGoldenPath, IsGoldenPath, IsGoldenUnreadStop, IsAcceptanceWriteStop, IsStopForSomeFile, IsFileNotWrittenStop}
use Rattle.rvtest_app.specs.Accepts.{AreGoldenFiles}

-- what holds of an element that was met
pub any_at : {X : Type 0} (P : X → Type 0) (xs : List X) (i : ℕ) (d : X) → i < length xs → P (get_or xs i d) → Any P xs
any_at P xs i d below is = (i, get_or xs i d, below, get_or_default xs i (get_or xs i d) d below, is)

-- a golden file of some job stands at the place
abbrev pub IsGoldenPlace : Option (List ℕ) → List Job → List ℕ → Type 0
IsGoldenPlace root jobs index = (path : List ℕ) × (IsGoldenPath jobs path × (index ≡ resolved_path root path))

abbrev HasGoldenPlace : Option (List ℕ) → List Job → GoldenFile → Type 0
HasGoldenPlace root jobs file = IsGoldenPlace root jobs file.resolved_path

abbrev HasGoldenPath : List Job → Target → Type 0
HasGoldenPath jobs target = IsGoldenPath jobs target.path

-- files of targets stand where targets lead
pub places_of_targets : (contents : Option FileContents) (root : Option (List ℕ)) (jobs : List Job) (targets : List Target)
    (files : List GoldenFile) → AreGoldenFiles contents root targets files
    → All (λ (target : Target). IsGoldenPath jobs target.path) targets
    → All (λ (file : GoldenFile). IsGoldenPlace root jobs file.resolved_path) files
places_of_targets contents root jobs [] [] are each = All-nil (HasGoldenPlace root jobs)
places_of_targets contents root jobs (target ∷ targets) (file ∷ files) are each =
    All-cons (HasGoldenPlace root jobs) file files
    (target.path, (All-head (HasGoldenPath jobs) target targets each, are.0.resolved))
    (places_of_targets contents root jobs targets files are.1 (All-tail (HasGoldenPath jobs) target targets each))
places_of_targets contents root jobs [] (file ∷ files) are each = elim are [ ]
places_of_targets contents root jobs (target ∷ targets) [] are each = elim are [ ]

-- the file of a target that was not read is one of the list
pub golden_of_targets : (contents : Option FileContents) (args : AcceptArgs) (jobs : List Job) (targets : List Target)
    (stop : Stop) → All (λ (target : Target). IsGoldenPath jobs target.path) targets
    → IsTargetsUnreadStop contents (optional_text args.run.root) targets stop → IsGoldenUnreadStop contents args jobs stop
golden_of_targets contents args jobs targets stop each = ⊎_elim inl
    (λ some. inr (
      resolved_path (optional_text args.run.root) some.1.path,
      (inr (some.1.path, (rw some.3 at (each some.0 some.1 some.2), refl)), some.4),
    ))

-- a golden file that was not read stops the command
pub stop_of_unread : (contents : Option FileContents) (args : AcceptArgs) (jobs : List Job) (stop : Stop)
    → IsGoldenUnreadStop contents args jobs stop → IsAcceptingStop contents args jobs stop
stop_of_unread contents args jobs stop =
    ⊎_elim inl (λ is. inr (inr (inr (is.0, (is.1.0, inl is.1.1)))))

-- the list, or a golden file, was not written
stop_of_files : (contents : Option FileContents) (args : AcceptArgs) (jobs : List Job) (list : List ℕ)
    (files : List GoldenFile) (stop : Stop) → list ≡ args.run.list.now
    → All (λ (file : GoldenFile). IsGoldenPlace (optional_text args.run.root) jobs file.resolved_path) files
    → IsStopForSomeFile (IsFileNotWrittenStop contents) list files stop
    → (path : List ℕ) × (IsListOrGoldenPath args jobs path × IsFileNotWrittenStop contents path stop)
stop_of_files contents args jobs list files stop same each = ⊎_elim (λ own. (list, (inl same, own)))
    (λ some. (some.1.resolved_path, (inr (rw some.3 at (each some.0 some.1 some.2)), some.4)))

pub stop_of_put : (contents : Option FileContents) (args : AcceptArgs) (jobs : List Job) (list : List ℕ)
    (files : List GoldenFile) (stop : Stop) → list ≡ args.run.list.now
    → All (λ (file : GoldenFile). IsGoldenPlace (optional_text args.run.root) jobs file.resolved_path) files
    → IsAcceptanceWriteStop contents args.check list files stop → IsAcceptingStop contents args jobs stop
stop_of_put contents args jobs list files stop same each = ⊎_elim inl (⊎_elim (λ failed. inr (inr (inl failed)))
    (λ is. let of = stop_of_files contents args jobs list files stop same each is.1 in
    inr (inr (inr (of.0, (of.1.0, inr (is.0, of.1.1)))))))

-- ---- by the claims of runs

-- the targets of these claims are golden files of the list
golden_paths : (jobs : List Job) (runs : List (Option JobRun)) (golden_texts : List GoldenText) (targets : List Target)
    → targets ≡ fold (with_target runs golden_texts) [] golden_texts → golden_texts ≡ golden_texts_of_runs 0 jobs runs
    → All (λ (target : Target). IsGoldenPath jobs target.path) targets
golden_paths jobs runs golden_texts targets found are = rw (found, are) (targets_are_of_jobs jobs runs)

pub targets_unread : (contents : Option FileContents) (args : AcceptArgs) (jobs : List Job) (runs : List (Option JobRun))
    (golden_texts : List GoldenText) (targets : List Target) (stop : Stop)
    → targets ≡ fold (with_target runs golden_texts) [] golden_texts → golden_texts ≡ golden_texts_of_runs 0 jobs runs
    → IsTargetsUnreadStop contents (optional_text args.run.root) targets stop → IsGoldenUnreadStop contents args jobs stop
targets_unread contents args jobs runs golden_texts targets stop found are =
    golden_of_targets contents args jobs targets stop (golden_paths jobs runs golden_texts targets found are)

pub files_unput : (contents : Option FileContents) (args : AcceptArgs) (jobs : List Job) (list : List ℕ)
    (runs : List (Option JobRun)) (golden_texts : List GoldenText) (files : List GoldenFile) (stop : Stop)
    → list ≡ args.run.list.now → golden_texts ≡ golden_texts_of_runs 0 jobs runs
    → AreGoldenFiles contents (optional_text args.run.root) (fold (with_target runs golden_texts) [] golden_texts) files
    → IsAcceptanceWriteStop contents args.check list files stop → IsAcceptingStop contents args jobs stop
files_unput contents args jobs list runs golden_texts files stop same are golden =
    stop_of_put contents args jobs list files stop same
    (places_of_targets contents (optional_text args.run.root) jobs (fold (with_target runs golden_texts) [] golden_texts) files golden
    (golden_paths jobs runs golden_texts (fold (with_target runs golden_texts) [] golden_texts) refl are))

-- what happened to a file of these happened in another sense
pub files_stop : (P Q : List ℕ → Stop → Type 0) (list : List ℕ) (files : List GoldenFile) (stop : Stop)
    → ((path : List ℕ) → P path stop → Q path stop) → IsStopForSomeFile P list files stop → IsStopForSomeFile Q list files stop
files_stop P Q list files stop f = ⊎_elim (λ own. inl (f list own))
    (λ some. inr (some.0, some.1, some.2, some.3, f some.1.resolved_path some.4))
