-- The run of the input as a flat image.
use Rattle.std.specs.Prelude.{◌≡◌, ℕ, List, [], ◌∷◌, take, Option, IfSome}
use Rattle.rv_fleet.specs.declared_row.Row.{Row}
use Rattle.rv_fleet.specs.Flat.{flat_row_of}

-- the maximum number of bytes that are read: one more than a flat image may have
abbrev pub max_read : ℕ
max_read = 1048577

-- `bytes` are the first bytes of the input, up to `max_read`; always true if the input is not known
abbrev pub IsInputBeginning : Option (List ℕ) → List ℕ → Type 0
IsInputBeginning input bytes = IfSome input (λ contents. bytes ≡ take max_read contents)

-- `rows` is the one row of the flat image that the input begins with, run within this budget
abbrev pub AreRawRows : Option (List ℕ) → ℕ → List Row → Type 0
AreRawRows input budget rows =
    (bytes : List ℕ) × (IsInputBeginning input bytes × (rows ≡ flat_row_of bytes budget ∷ []))
