-- The lines on standard error.
use Rattle.std.specs.Prelude.{◌≡◌, ◌⊎◌, ℕ, List, ◌++◌, Option, codes}
use Rattle.std.specs.Fmt.{decimal}
use Rattle.std.specs.Io.KnownBytes.{Appends}
use Rattle.rv_fleet.specs.Report.{line}
use Rattle.rv_files.specs.Sinks.{AppendsPrefix}
use Rattle.rv_files.specs.Counts.{one_more}
use Rattle.rv_fleet.specs.ListsFaults.{job_error_name}
use Rattle.rv_fleet.specs.declared_lists_error.JobError.{JobError}
use Rattle.rvfleet_app.specs.declared.error.Failure.{Failure}
use Rattle.rvfleet_app.specs.declared.error.Failure.TheVariants as failure

-- a line on standard error: `rvfleet: ` and a text
abbrev pub program_line : List ℕ → List ℕ
program_line text = line (codes "rvfleet: " ++ text)

-- the line on standard error for invalid arguments
abbrev pub bad_arguments_line : List ℕ
bad_arguments_line = program_line (codes "bad words")

-- the line on standard error for an invalid list: the number of the job, or 0 for the list as a whole, and the name of the error
abbrev pub fault_line : JobError → List ℕ
fault_line error =
    program_line (codes "job " ++ decimal error.job ++ codes ": " ++ job_error_name error.what)

-- the words for a failure in its line on standard error
abbrev pub failure_name : Failure → List ℕ
failure_name failure.OutOfMemory = codes "out of memory"
failure_name failure.NoWorker = codes "no worker"
failure_name failure.ListUnreadable = codes "list unreadable"
failure_name failure.ListTooLong = codes "list too long"
failure_name failure.ReadFailed = codes "read failed"
failure_name failure.WriteFailed = codes "write failed"

-- the line on standard error for a failure
abbrev pub failure_line : Failure → List ℕ
failure_line failure = program_line (failure_name failure)

-- the whole line was written and no write failed; or a prefix of the line was written and one write failed
unfoldable pub IsLineWritten : Option (List ℕ) → Option (List ℕ) → ℕ → ℕ → List ℕ → Type 0
IsLineWritten before after failures_before failures_after line =
    (Appends before after line × (failures_after ≡ failures_before))
    ⊎ (AppendsPrefix before after line × (failures_after ≡ one_more failures_before))
