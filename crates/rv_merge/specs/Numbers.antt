-- What the types of a row's fields imply about its numbers.
use Rattle.std.specs.Prelude.{List, ℕ, Option, Some, None}
use Rattle.std.specs.List.{AllByRecursion}
use Rattle.hex.specs.Hex.{IsBytes}
use Rattle.rv_rows.specs.declared_row.Row.{Row}
use Rattle.rv_rows.specs.declared_row.RowEnd.{RowEnd}
use Rattle.rv_rows.specs.declared_row.RowEnd.TheVariants as ending
use Rattle.rv_rows.specs.Saved.{IsWord}

-- the numbers of an ending fit in 32 bits
abbrev pub EndHasWordNumbers : RowEnd → Type 0
EndHasWordNumbers (ending.Exit code) = IsWord code
EndHasWordNumbers (ending.Fault kind pc value) = IsWord pc × IsWord value
EndHasWordNumbers ending.Budget = Unit {0}
EndHasWordNumbers (ending.Refused why) = Unit {0}

-- the words of a signature, if there is one, fit in 32 bits
abbrev pub HasWords : Option (List ℕ) → Type 0
HasWords None = Unit {0}
HasWords (Some words) = AllByRecursion IsWord words

-- the numbers of a row fit in 32 bits, and its console consists of bytes
pub record HasNumbers (row : Row) : Type 0 where
  pub ending : EndHasWordNumbers row.ending
  pub steps : IsWord row.steps
  pub console : IsBytes row.console
  pub signature : HasWords row.signature
