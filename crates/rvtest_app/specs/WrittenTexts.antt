-- Writing a text to a file, or to standard output if no file is named.
use Rattle.std.specs.Prelude.{◌≡◌, ℕ, Bool, true, false, List, Option, Some, None, codes}
use Rattle.std.specs.Io.KnownBytes.{Appends}
use Rattle.rv_command.specs.declared.stop.Stop.{Stop}
use Rattle.rv_command.specs.declared.stop.Stop.TheVariants as stops
use Rattle.rvtest_app.specs.AcceptStops.{IsFileNotCreatedStop}
use Rattle.rvtest_app.specs.Outlets.{AreFilesCommitted, file_at, is_stdout, stdout_at}
use Rattle.rvtest_app.specs.CommandOutputs.{CommandOutputs}

-- the path, or `-` (standard output) if no path is given
abbrev pub written_path : Option (List ℕ) → List ℕ
written_path (Some path) = path
written_path None = codes "-"

-- the text was written to the file at the path, or to standard output if the path is `-`, and nothing else was written; without a path,
-- nothing was written
pub record IsWrittenAt (path : Option (List ℕ)) (text : List ℕ) (before after : CommandOutputs) : Type 0 where
  pub out : Appends before.out after.out (stdout_at path text)
  pub errors : after.errors ≡ before.errors
  pub failures : after.failures ≡ before.failures
  pub committed : AreFilesCommitted before.committed after.committed (Some (file_at path text))

-- why a command stopped: standard output could not be written (the Bool is true), or the file at the path could not be created
abbrev pub IsTextWriteFailedStop : Bool → List ℕ → Stop → Type 0
IsTextWriteFailedStop true path stop = stop ≡ stops.WriteFailed
IsTextWriteFailedStop false path stop = IsFileNotCreatedStop path stop

-- why a command stopped: the text could not be written to the file at the path, or to standard output if the path is `-`
abbrev pub IsTextNotWrittenAtStop : List ℕ → Stop → Type 0
IsTextNotWrittenAtStop path stop = IsTextWriteFailedStop (is_stdout path) path stop
