-- Rows by name.
use Rattle.std.specs.Prelude.{ℕ, List, Option}
use Rattle.std.specs.List.{find}
use Rattle.std.specs.Str.{bytes_eq}
use Rattle.rv_rows.specs.declared_row.Row.{Row}

-- the first of these rows with this name, or `None` if there is none
abbrev pub row_named : List Row → List ℕ → Option Row
row_named rows name = find (λ row. bytes_eq row.name name) rows
