-- Why `accept` stops early.
use Rattle.std.specs.Prelude.{◌≡◌, ◌⊎◌, ℕ, Bool, false, List, IsTrue, Ok, Option, codes}
use Rattle.std.specs.List.{Any, list_any}
use Rattle.rv_accept.specs.Sharing.{names_golden_file}
use Rattle.rv_accept.specs.declared.targets.Target.{Target}
use Rattle.rv_accept_text.specs.declared.golden_file.GoldenFile.{GoldenFile}
use Rattle.rv_files.specs.Files.{FileContents}
use Rattle.rvtest_cli.specs.declared.accept.AcceptArgs.{AcceptArgs}
use Rattle.rv_command.specs.Messages.{path_message}
use Rattle.rv_command.specs.Stops.{IsListUnreadStop, IsStop}
use Rattle.rv_command.specs.Texts.{IsTextAt, optional_text}
use Rattle.rv_command.specs.declared.stop.Stop.{Stop}
use Rattle.rv_command.specs.declared.stop.Stop.TheVariants as stops
use Rattle.rv_files.specs.UnreadablePaths.{resolved_path}
use Rattle.rv_rows.specs.JobList.{job_list_of}
use Rattle.rv_rows.specs.declared_job.Job.{Job}
use Rattle.rvtest_app.specs.Overwrites.{IsAcceptOverwriteStop}
use Rattle.rvtest_app.specs.WriteStops.{IsFileNotOpenedStop, IsWriteFailedStop}

-- ---- one file

-- why a command stopped: the file at the path could not be opened or written, or could not be moved to the path
abbrev pub IsFileNotCreatedStop : List ℕ → Stop → Type 0
IsFileNotCreatedStop path stop = IsFileNotOpenedStop path stop ⊎ IsWriteFailedStop path stop

-- why a command stopped: the file at the path does not contain what was written, or memory ran out
abbrev pub IsOtherBytesStop : List ℕ → Stop → Type 0
IsOtherBytesStop path stop = IsStop 3 (path_message path (codes "does not contain what was written")) stop

-- why a command stopped: the file at the path changed since it was read, or memory ran out
abbrev pub IsChangedStop : List ℕ → Stop → Type 0
IsChangedStop path stop = IsStop 3 (path_message path (codes "changed since it was read; nothing was written")) stop

-- why a command stopped: the file at the path could not be read again, does not contain what was written, or changed since it was read
abbrev pub IsUnverifiedStop : Option FileContents → List ℕ → Stop → Type 0
IsUnverifiedStop contents path stop = IsListUnreadStop contents path stop ⊎ (IsOtherBytesStop path stop ⊎ IsChangedStop path stop)

-- why a command stopped: the file at the path could not be written, or reading it back failed or found other contents
abbrev pub IsFileNotWrittenStop : Option FileContents → List ℕ → Stop → Type 0
IsFileNotWrittenStop contents path stop = IsFileNotCreatedStop path stop ⊎ IsUnverifiedStop contents path stop

-- ---- the golden files

-- `condition` holds for the stop and one of these paths: the path of the list, or the resolved path of a golden file
abbrev pub IsStopForSomeFile : (List ℕ → Stop → Type 0) → List ℕ → List GoldenFile → Stop → Type 0
IsStopForSomeFile condition list_path files stop = condition list_path stop ⊎ Any (λ file. condition file.resolved_path stop) files

-- why a command stopped: memory ran out, or the golden file of one of the targets could not be read; the paths are resolved against `root`
abbrev pub IsTargetsUnreadStop : Option FileContents → Option (List ℕ) → List Target → Stop → Type 0
IsTargetsUnreadStop contents root targets stop = (stop ≡ stops.OutOfMemory)
    ⊎ Any (λ target. IsListUnreadStop contents (resolved_path root target.path) stop) targets

-- why a command stopped: memory ran out, standard output could not be written, or, unless `check` is true, the list or a golden file could
-- not be written
abbrev pub IsAcceptanceWriteStop : Option FileContents → Bool → List ℕ → List GoldenFile → Stop → Type 0
IsAcceptanceWriteStop contents check list_path files stop = (stop ≡ stops.OutOfMemory) ⊎ ((stop ≡ stops.WriteFailed)
    ⊎ ((check ≡ false) × IsStopForSomeFile (IsFileNotWrittenStop contents) list_path files stop))

-- ---- the command

-- some job names a golden file with this path
abbrev pub IsGoldenPath : List Job → List ℕ → Type 0
IsGoldenPath jobs path = IsTrue (list_any (names_golden_file path) jobs)

-- `resolved` is the path of the list, or the path of a job's golden file, resolved against the `--root` directory
abbrev pub IsListOrGoldenPath : AcceptArgs → List Job → List ℕ → Type 0
IsListOrGoldenPath args jobs resolved = (resolved ≡ args.run.list.now)
    ⊎ ((path : List ℕ) × (IsGoldenPath jobs path × (resolved ≡ resolved_path (optional_text args.run.root) path)))

-- why a command stopped: memory ran out, or the list or a golden file of its jobs could not be read
abbrev pub IsGoldenUnreadStop : Option FileContents → AcceptArgs → List Job → Stop → Type 0
IsGoldenUnreadStop contents args jobs stop = (stop ≡ stops.OutOfMemory)
    ⊎ ((path : List ℕ) × (IsListOrGoldenPath args jobs path × IsListUnreadStop contents path stop))

-- why a command stopped: the file at the path could not be read or, unless `check` is true, could not be written
abbrev pub IsFileAccessStop : Option FileContents → Bool → List ℕ → Stop → Type 0
IsFileAccessStop contents check path stop = IsListUnreadStop contents path stop ⊎ ((check ≡ false) × IsFileNotWrittenStop contents path stop)

-- why a command stopped: memory ran out, no thread could be started, standard output could not be written, or the list or a golden file of
-- its jobs could not be read or written
abbrev pub IsAcceptingStop : Option FileContents → AcceptArgs → List Job → Stop → Type 0
IsAcceptingStop contents args jobs stop = (stop ≡ stops.OutOfMemory) ⊎ ((stop ≡ stops.NoWorker) ⊎ ((stop ≡ stops.WriteFailed)
    ⊎ ((path : List ℕ) × (IsListOrGoldenPath args jobs path × IsFileAccessStop contents args.check path stop))))

-- why `accept` stopped after it chose the jobs: a file that it would write is an input or is outside of the directory, or the results could
-- not be accepted
abbrev pub IsAcceptChosenStop : Option FileContents → AcceptArgs → List Job → Stop → Type 0
IsAcceptChosenStop contents args jobs stop = IsAcceptOverwriteStop stop ⊎ IsAcceptingStop contents args jobs stop

-- why `accept` stopped after it read a valid list
abbrev pub IsUnacceptedStop : Option FileContents → AcceptArgs → Stop → Type 0
IsUnacceptedStop contents args stop = (text : List ℕ) × (IsTextAt contents args.run.list.now text
    × ((jobs : List Job) × ((job_list_of text ≡ Ok jobs) × IsAcceptChosenStop contents args jobs stop)))
