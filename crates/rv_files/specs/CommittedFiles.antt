-- The files that a command has committed to their paths.
use Rattle.std.specs.Prelude.{◌≡◌, ℕ, List, [], ◌∷◌, ◌++◌, IfSome, Option, Some}

-- a file that was committed: its path and its bytes
pub record CommittedFile : Type 0 where
  pub path : List ℕ
  pub bytes : List ℕ

-- the committed file with this path and these bytes
abbrev pub committed_file : List ℕ → List ℕ → CommittedFile
committed_file path bytes = record {
  path = path;
  bytes = bytes;
}

-- the committed files went from `before` to `after` by adding a file with this path and these bytes; true if the files or the bytes are
-- unknown
abbrev pub IsCommittedFileAdded : Option (List CommittedFile) → Option (List CommittedFile) → List ℕ → Option (List ℕ) → Type 0
IsCommittedFileAdded before after path bytes =
    IfSome before (λ earlier. IfSome bytes (λ known_bytes. after ≡ Some (earlier ++ committed_file path known_bytes ∷ [])))
