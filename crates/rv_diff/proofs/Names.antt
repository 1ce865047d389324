-- Rows by their names, one row more.
use Rattle.std.proofs.Common.{◌≡◌, ◌∙◌, refl, sym, ap, ℕ, suc, ◌-◌, ◌<◌, ◌≤◌, List, ◌∷◌, Bool, true, false, cond}
use Rattle.std.proofs.Common.{Option, Some, option_map, get_or, length, drop, drop-cons, arith}
use Rattle.std.specs.Str.{bytes_eq}
use denote.Ref.{Bor}
use Rattle.rv_rows.specs.declared_row.Row.{Row}
use Rattle.rv_diff.specs.RowsByName.{row_named}

abbrev pub now : Bor Row → Row
now row = row.now

-- the rows from one on: that one, and those behind it
pub drop-row : (rows : List Row) (left : ℕ) (row : Row) → 0 < left → left ≤ length rows →
    row ≡ get_or rows (left - 1) row → drop (left - 1) rows ≡ row ∷ drop left rows
drop-row rows left row some within is =
    let inside : left - 1 < length rows = omega arith in
    let next : suc (left - 1) ≡ left = omega arith in
    drop-cons rows (left - 1) row inside
    ∙ ap (λ n. get_or rows (left - 1) row ∷ drop n rows) next
    ∙ ap (λ r. r ∷ drop left rows) (sym is)

found_in : (here : Bool) (row : Bor Row) (other : Option (Bor Row)) →
    option_map now (cond here (Some row) other) ≡ cond here (Some row.now) (option_map now other)
found_in true row other = refl
found_in false row other = refl

-- what finds the rows from one on, once the row before them is put in
pub found_more : (rows : List Row) (left : ℕ) (row : Bor Row) (key : List ℕ)
    (before after : List ℕ → Option (Bor Row)) → 0 < left → left ≤ length rows →
    ((name : List ℕ) → after name ≡ cond (bytes_eq key name) (Some row) (before name)) →
    row.now ≡ get_or rows (left - 1) row.now → key ≡ row.now.name →
    ((name : List ℕ) → option_map now (before name) ≡ row_named (drop left rows) name) →
    (name : List ℕ) → option_map now (after name) ≡ row_named (drop (left - 1) rows) name
found_more rows left row key before after some within put is keyed found name =
    rw (drop-row rows left row.now some within is)
    (ap (option_map now) (put name)
    ∙ found_in (bytes_eq key name) row (before name)
    ∙ ap (cond (bytes_eq key name) (Some row.now)) (found name)
    ∙ ap (λ k. cond (bytes_eq k name) (Some row.now) (row_named (drop left rows) name)) keyed)
