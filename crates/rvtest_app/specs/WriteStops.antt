-- Why the output of a command was not written.
use Rattle.std.specs.Prelude.{◌≡◌, ◌⊎◌, ℕ, List, IsSomeAnd, Option, Some, None}
use Rattle.std.specs.declared.io.ErrorKind.{ErrorKind}
use Rattle.rv_command.specs.Messages.{path_message}
use Rattle.rv_command.specs.Stops.{IsFileErrorStop, IsStop, IsSystemStop}
use Rattle.rv_command.specs.declared.stop.Stop.{Stop}
use Rattle.rv_command.specs.declared.stop.Stop.TheVariants as stops
use Rattle.rv_files.specs.IoErrors.{write_error_text}
use Rattle.rv_files.specs.declared.file_error.FileError.{FileError}
use Rattle.rv_rows.specs.declared_report.WriteError.{WriteError}
use Rattle.rv_rows.specs.declared_report.WriteError.TheVariants as write_error
use Rattle.rvtest_app.specs.Outlets.{file_path_at}

-- ---- texts

-- the stop for an error in writing to standard output: memory ran out, or the write failed
abbrev pub stop_of_write_error : WriteError → Stop
stop_of_write_error write_error.OutOfMemory = stops.OutOfMemory
stop_of_write_error write_error.Failed = stops.WriteFailed

-- why a command stopped: a write to the file at the path failed for this reason, or memory ran out
abbrev pub IsWriteFailedForReasonStop : List ℕ → ErrorKind → Stop → Type 0
IsWriteFailedForReasonStop path reason stop = IsStop 3 (path_message path (write_error_text reason)) stop

-- why a command stopped: a write to the file at the path failed, or memory ran out
abbrev pub IsWriteFailedStop : List ℕ → Stop → Type 0
IsWriteFailedStop path stop = (reason : ErrorKind) × IsWriteFailedForReasonStop path reason stop

-- why a command stopped: writing to the file at the path ended with this error
abbrev pub IsWriteErrorStop : List ℕ → WriteError → Stop → Type 0
IsWriteErrorStop path write_error.OutOfMemory stop = stop ≡ stops.OutOfMemory
IsWriteErrorStop path write_error.Failed stop = IsWriteFailedStop path stop

-- why a command stopped: the text could not be written to the file at the path, or to standard output if there is no path
abbrev pub IsTextNotWrittenStop : Option (List ℕ) → Stop → Type 0
IsTextNotWrittenStop None stop = (stop ≡ stops.OutOfMemory) ⊎ (stop ≡ stops.WriteFailed)
IsTextNotWrittenStop (Some path) stop = IsWriteFailedStop path stop

-- ---- files

-- why a command stopped: the file at the path could not be opened
abbrev pub IsFileNotOpenedStop : List ℕ → Stop → Type 0
IsFileNotOpenedStop path stop = (error : FileError) × IsFileErrorStop path error stop

-- why a command stopped: a path is given, and its file could not be synced to disk or moved to the path
abbrev pub IsUncommittedStop : Option (List ℕ) → Stop → Type 0
IsUncommittedStop path stop = IsSomeAnd path (λ path. (reason : ErrorKind) × IsSystemStop path reason stop)

-- why a command stopped: a path is given, and its file could not be opened, written, or moved to the path
abbrev pub IsFileStop : Option (List ℕ) → Stop → Type 0
IsFileStop path stop = IsSomeAnd path (λ path. IsFileNotOpenedStop path stop ⊎ IsWriteFailedStop path stop)

-- why a command stopped: one of the two files could not be opened, written, or moved to its path
abbrev pub IsEitherFileStop : Option (List ℕ) → Option (List ℕ) → Stop → Type 0
IsEitherFileStop report junit stop = IsFileStop report stop ⊎ IsFileStop junit stop

-- why a command stopped: memory ran out, a standard stream could not be written, or one of the two files could not be created
abbrev pub IsOutputWriteStop : Option (List ℕ) → Option (List ℕ) → Stop → Type 0
IsOutputWriteStop report junit stop = (stop ≡ stops.OutOfMemory) ⊎ ((stop ≡ stops.WriteFailed) ⊎ IsEitherFileStop report junit stop)

-- why a command stopped: memory ran out, a standard stream could not be written, or the file at one of the two paths could not be created;
-- a path can also be `-` (standard output)
abbrev pub IsOutputStop : Option (List ℕ) → Option (List ℕ) → Stop → Type 0
IsOutputStop report_path junit_path stop = IsOutputWriteStop (file_path_at report_path) (file_path_at junit_path) stop
