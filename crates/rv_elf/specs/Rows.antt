-- A table of errors: rows of a condition and the error that it causes.
use Rattle.std.specs.Prelude.{Bool, if◌then◌else◌, List, [], ◌∷◌, Result, Ok, Err}
use Rattle.rv_elf.specs.declared.error.ImageError.{ImageError}

-- a condition, and the error that applies if it is true
abbrev pub ErrorRow : Type 0
ErrorRow = Bool × ImageError

-- the error of the first row whose condition is true, or `next` if there is none
abbrev pub first_error_of : {X : Type 0} → List ErrorRow → Result X ImageError → Result X ImageError
first_error_of [] next = next
first_error_of (row ∷ rows) next = if row.0 then Err row.1 else first_error_of rows next

-- the result of a check that finds no error
abbrev pub accepted : Result (Unit {0}) ImageError
accepted = Ok tt
