-- The entries of a map from functions to names, as a list of function names.
use Rattle.std.specs.Prelude.{ℕ, List, map}
use Rattle.rv_count_tables.specs.declared.table.FunctionName.{FunctionName}

-- an entry of the map, as a function and its name
abbrev pub function_name_of_entry : ℕ × List ℕ → FunctionName
function_name_of_entry entry = record { function = entry.0; name = entry.1 }

-- the entries of the map, as functions and their names, in order
abbrev pub names_of_entries : List (ℕ × List ℕ) → List FunctionName
names_of_entries entries = map function_name_of_entry entries
