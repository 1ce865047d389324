-- Lookup in a table whose rows may or may not match.
use Rattle.std.specs.Prelude.{Bool, if◌then◌else◌, List, [], ◌∷◌, Option, Some, None}

-- the value of `value_of` at the first element that satisfies `fits`, or `None` if no element does
abbrev pub first_match : {A B : Type 0} → (A → Bool) → (A → B) → List A → Option B
first_match fits value_of [] = None
first_match fits value_of (row ∷ rows) = if fits row then Some (value_of row) else first_match fits value_of rows
