-- What a command has written so far, and which files it has committed.
use Rattle.std.specs.Prelude.{◌≡◌, ℕ, List, None, Option, Some}
use Rattle.std.specs.Io.KnownBytes.{Appends}
use Rattle.rv_command.specs.Messages.{IsMessageWritten}
use Rattle.rv_files.specs.CommittedFiles.{CommittedFile}
use Rattle.rvtest_app.specs.declared.destinations.Destinations.{Destinations}

-- what a command has written so far; each field that is an `Option` is `None` if that destination does not say what it received
pub record CommandOutputs : Type 0 where
  -- the bytes on standard output
  pub out : Option (List ℕ)
  -- the bytes on standard error
  pub errors : Option (List ℕ)
  -- the number of failed writes to standard error
  pub failures : ℕ
  -- the files that were moved to their paths, in order
  pub committed : Option (List CommittedFile)

-- what a command has written, as its destinations report it by the given functions
abbrev pub outputs_of : {F O E : Type 0} → (F → Option (List CommittedFile)) → (O → Option (List ℕ)) → (E → Option (List ℕ))
    → (E → ℕ) → Destinations F O E → CommandOutputs
outputs_of committed_files out_bytes error_bytes failure_count destinations = record {
  out = out_bytes destinations.out;
  errors = error_bytes destinations.errors;
  failures = failure_count destinations.errors;
  committed = committed_files destinations.files;
}

-- `committed`, or `None` if the first argument, the files committed before, is not known
abbrev pub committed_if_reported : Option (List CommittedFile) → Option (List CommittedFile) → Option (List CommittedFile)
committed_if_reported None committed = None
committed_if_reported (Some earlier) committed = committed

-- `outputs`, but without the committed files if those committed before, `earlier`, are not known
abbrev pub with_committed_if_reported : Option (List CommittedFile) → CommandOutputs → CommandOutputs
with_committed_if_reported earlier outputs = record outputs { committed = committed_if_reported earlier outputs.committed }

-- the text was written to standard output, and nothing else was written
abbrev pub IsOnlyStandardOutput : List ℕ → CommandOutputs → CommandOutputs → Type 0
IsOnlyStandardOutput text before after =
    Appends before.out after.out text × (after.errors ≡ before.errors) × (after.failures ≡ before.failures)
    × (after.committed ≡ before.committed)

-- the text was written to standard error, or a prefix of it if a write failed, and nothing else was written
abbrev pub IsOnlyErrorOutput : List ℕ → CommandOutputs → CommandOutputs → Type 0
IsOnlyErrorOutput text before after =
    (after.out ≡ before.out) × IsMessageWritten before.errors after.errors before.failures after.failures text
    × (after.committed ≡ before.committed)
