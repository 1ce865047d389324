-- How the fields of `RowsByName` fit together: the rows, and the map from their names.
use Rattle.std.specs.Prelude.{◌≡◌, ℕ, List, option_map}
use Rattle.std.specs.HashMap.{get_by}
use Rattle.std.specs.Str.{bytes_eq}
use Rattle.rv_diff.specs.declared.rows_by_name.RowsByName.TheInside.{Inside}
use Rattle.rv_diff.specs.RowsByName.{row_named}

-- the invariant of the fields of `RowsByName`: the map has the first row with each name
abbrev pub IsValidRowsByName : Inside → Type 0
IsValidRowsByName named = (name : List ℕ)
    → option_map (λ row. row.now) (get_by (λ key. bytes_eq name key.now) named.first_by_name)
    ≡ row_named named.rows.now name
