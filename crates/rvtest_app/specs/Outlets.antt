-- Where a report and JUnit XML are written: to standard output, to the file at a path, or nowhere.
use Rattle.std.specs.Prelude.{◌≡◌, ◌||◌, ◌⊎◌, ℕ, Bool, true, false, List, [], ◌∷◌, ◌++◌, Option, Some, None, IfSome, option_map, option_and_then, ⊤}
use Rattle.std.specs.Prelude.{codes, if◌then◌else◌}
use Rattle.std.specs.Str.{bytes_eq}
use Rattle.std.specs.Io.KnownBytes.{Appends}
use Rattle.rv_files.specs.CommittedFiles.{CommittedFile}
use Rattle.rvtest_app.specs.declared.outlets.Outlet.{Outlet}
use Rattle.rvtest_app.specs.declared.outlets.Outlet.TheVariants as outlet
use Rattle.rvtest_app.specs.declared.outlets.Outlets.{Outlets}
use Rattle.rvtest_app.specs.declared.committing.SyncedFile.{SyncedFile}

-- whether the path is `-`, which means standard output
abbrev pub is_stdout : List ℕ → Bool
is_stdout path = bytes_eq path (codes "-")

-- ---- by paths

-- the file at the path with this text, as a list; empty if there is no path or it is `-` (standard output)
abbrev pub file_at : Option (List ℕ) → List ℕ → List CommittedFile
file_at None text = []
file_at (Some path) text = if is_stdout path then [] else record { path = path; bytes = text } ∷ []

-- what goes to standard output: the text if the path is `-`, else nothing
abbrev pub stdout_at : Option (List ℕ) → List ℕ → List ℕ
stdout_at None text = []
stdout_at (Some path) text = if is_stdout path then text else []

-- the path if it is that of a file; `None` if there is no path or it is `-` (standard output)
abbrev pub file_path_at : Option (List ℕ) → Option (List ℕ)
file_path_at None = None
file_path_at (Some path) = if is_stdout path then None else Some path

-- whether a path is given and is `-` (standard output)
abbrev pub is_stdout_at : Option (List ℕ) → Bool
is_stdout_at None = false
is_stdout_at (Some path) = is_stdout path

-- ---- outlets

module _ {P W : Type 0} where
  -- whether the outlet is standard output
  abbrev pub is_stdout_outlet : Outlet P W → Bool
  is_stdout_outlet outlet.Nowhere = false
  is_stdout_outlet outlet.Stdout = true
  is_stdout_outlet (outlet.File file) = false

  -- whether the report or the JUnit XML goes to standard output
  abbrev pub uses_stdout : Outlets P W → Bool
  uses_stdout outlets = is_stdout_outlet outlets.report || is_stdout_outlet outlets.junit

  -- the path of an outlet's file in messages; `None` if the outlet is not a file
  abbrev pub outlet_path : Outlet P W → Option (List ℕ)
  outlet_path outlet.Nowhere = None
  outlet_path outlet.Stdout = None
  outlet_path (outlet.File file) = Some file.path.now

  -- the text, if the outlet is standard output; else empty
  abbrev pub text_if_stdout : Outlet P W → List ℕ → List ℕ
  text_if_stdout outlet.Nowhere text = []
  text_if_stdout outlet.Stdout text = text
  text_if_stdout (outlet.File file) text = []

  -- no write to the outlet's file has failed
  abbrev pub has_no_failure : (W → ℕ) → Outlet P W → Type 0
  has_no_failure failure_count outlet.Nowhere = ⊤
  has_no_failure failure_count outlet.Stdout = ⊤
  has_no_failure failure_count (outlet.File file) = failure_count file.sink ≡ 0

  -- the outlet is for this path; if it is a file, no write to it failed, and if the committed files are known, it has received this text so
  -- far
  abbrev pub HasReceived : (P → List ℕ) → (W → Option (List ℕ)) → (W → ℕ) → Option (List CommittedFile)
      → Option (List ℕ) → List ℕ → Outlet P W → Type 0
  HasReceived pending_path accepted failure_count committed path text outlet.Nowhere = path ≡ None
  HasReceived pending_path accepted failure_count committed path text outlet.Stdout = path ≡ Some (codes "-")
  HasReceived pending_path accepted failure_count committed path text (outlet.File file) =
      (path ≡ Some (pending_path file.destination)) × ((is_stdout (pending_path file.destination) ≡ false)
      × (IfSome committed (λ _. accepted file.sink ≡ Some text) × (failure_count file.sink ≡ 0)
      × (file.path.now ≡ pending_path file.destination)))

  -- the text was written to the outlet, and no write failed
  abbrev pub IsWrittenToOutlet : (W → Option (List ℕ)) → (W → ℕ) → Outlet P W → Outlet P W → List ℕ → Type 0
  IsWrittenToOutlet accepted failure_count outlet.Nowhere outlet.Nowhere text = ⊤
  IsWrittenToOutlet accepted failure_count outlet.Stdout outlet.Stdout text = ⊤
  IsWrittenToOutlet accepted failure_count (outlet.File before) (outlet.File after) text =
      (after.destination ≡ before.destination) × (Appends (accepted before.sink) (accepted after.sink) text
      × (failure_count after.sink ≡ failure_count before.sink))
  IsWrittenToOutlet accepted failure_count _ _ text = ⊥

  -- the file that appears when the outlet is committed, as a list; `None` if its contents are not known
  abbrev pub files_of : (P → List ℕ) → (W → Option (List ℕ)) → Outlet P W → Option (List CommittedFile)
  files_of pending_path accepted outlet.Nowhere = Some []
  files_of pending_path accepted outlet.Stdout = Some []
  files_of pending_path accepted (outlet.File file) =
      option_map (λ bytes. record { path = pending_path file.destination; bytes = bytes } ∷ []) (accepted file.sink)

module _ {P S : Type 0} where
  -- the file that is synced to disk, as a list; `None` if its contents are not known
  abbrev pub synced_files : (P → List ℕ) → (S → Option (List ℕ)) → Option (SyncedFile P S) → Option (List CommittedFile)
  synced_files pending_path synced_bytes None = Some []
  synced_files pending_path synced_bytes (Some file) =
      option_map (λ bytes. record { path = pending_path file.destination; bytes = bytes } ∷ []) (synced_bytes file.file)

  -- the path of the synced file in messages
  abbrev pub synced_path : Option (SyncedFile P S) → Option (List ℕ)
  synced_path synced = option_map (λ file. file.path.now) synced

-- `after` are the committed files `before` followed by `files`; true in any case if `before` or `files` is not known (`None`)
abbrev pub AreFilesCommitted : Option (List CommittedFile) → Option (List CommittedFile) → Option (List CommittedFile) → Type 0
AreFilesCommitted before after files = IfSome before (λ earlier. IfSome files (λ new. after ≡ Some (earlier ++ new)))

-- after an error, either no more files were committed, or exactly `first`, the first of two outputs
abbrev pub AreFilesPartlyCommitted : Option (List CommittedFile) → Option (List CommittedFile) → Option (List CommittedFile) → Type 0
AreFilesPartlyCommitted before after first = (after ≡ before) ⊎ AreFilesCommitted before after first

-- the files of the first list followed by those of the second; `None` if either is not known
abbrev pub joined_files : Option (List CommittedFile) → Option (List CommittedFile) → Option (List CommittedFile)
joined_files first second = option_and_then (λ earlier. option_map (λ later. earlier ++ later) second) first
