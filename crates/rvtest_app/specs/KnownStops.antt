-- Why the known failures could not be read.
use Rattle.std.specs.Prelude.{◌≡◌, ◌⊎◌, ℕ, List, IsSomeAnd, Option, Err}
use Rattle.rv_files.specs.Files.{FileContents}
use Rattle.rvtest_cli.specs.declared.run.RunArgs.{RunArgs}
use Rattle.rv_command.specs.Stops.{IsStop, IsListUnreadStop}
use Rattle.rv_command.specs.Texts.{IsTextAt}
use Rattle.rv_command.specs.declared.stop.Stop.{Stop}
use Rattle.rv_command.specs.declared.stop.Stop.TheVariants as stops
use Rattle.rv_expect.specs.KnownJobs.{known_jobs_of}
use Rattle.rv_expect.specs.declared.known_jobs.KnownFault.{KnownFault}
use Rattle.rv_rows.specs.JobList.{names_of_jobs}
use Rattle.rv_rows.specs.declared_job.Job.{Job}
use Rattle.rvtest_app.specs.KnownFiles.{known_fault_message}

-- why a command stopped: memory ran out, or the file of known failures at `path`, with the text `bytes`, has an error; messages name the
-- job list `list_path`
abbrev pub IsKnownFaultStop : List ℕ → List ℕ → List Job → List ℕ → Stop → Type 0
IsKnownFaultStop path list_path jobs bytes stop = (stop ≡ stops.OutOfMemory)
    ⊎ ((fault : KnownFault) × ((known_jobs_of (names_of_jobs jobs) bytes ≡ Err fault)
    × IsStop 2 (known_fault_message path list_path fault) stop))

-- why a command stopped: the file of known failures at `path` could not be read or has an error
abbrev pub IsKnownFileStop : Option FileContents → List ℕ → List ℕ → List Job → Stop → Type 0
IsKnownFileStop contents path list_path jobs stop = IsListUnreadStop contents path stop
    ⊎ ((bytes : List ℕ) × (IsTextAt contents path bytes × IsKnownFaultStop path list_path jobs bytes stop))

-- why a run with `--known` stopped: the file of known failures could not be read or has an error
abbrev pub IsKnownStop : Option FileContents → RunArgs → List Job → Stop → Type 0
IsKnownStop contents args jobs stop =
    IsSomeAnd args.known (λ path. IsKnownFileStop contents path.now args.list.now jobs stop)
