-- The row that the code finds among its rows is the one of the listing.
use Rattle.std.proofs.Common.{◌≡◌, ◌∙◌, ℕ, List, [], ◌∷◌, Bool, true, false, cond, Option, Some, None, Bor}
use Rattle.std.proofs.Common.{refl, ap, option_map, map, bit_and, ◌==◌}
use Rattle.std.specs.Prelude.{find}
use Rattle.std.specs.Option.{option_copied}
use Rattle.rv_disasm.specs.declared.unsimulated.Row.{Row as CodesRow}
use Rattle.rv_disasm.specs.Unsimulated.{Row, is_row_of, row_view}

found_or : (r : CodesRow) (rest : Option CodesRow) (others : Option Row)
    → option_map row_view rest ≡ others → (b : Bool)
    → option_map row_view (cond b (Some r) rest) ≡ cond b (Some (row_view r)) others
found_or r rest others e true = refl
found_or r rest others e false = e

found : (code : ℕ) (rows : List CodesRow)
    → option_map row_view (find (λ r. bit_and code r.0 == r.1) rows) ≡ find (is_row_of code) (map row_view rows)
found code [] = refl
found code (r ∷ rows) = found_or r _ _ (found code rows) (bit_and code r.0 == r.1)

copied : (row : Option (Bor CodesRow)) → option_copied row ≡ option_map (λ r. r.now) row
copied None = refl
copied (Some r) = refl

pub copied_row : (code : ℕ) (rows : List CodesRow) (listing : List Row) (row : Option (Bor CodesRow))
    → option_map (λ r. r.now) row ≡ find (λ r. bit_and code r.0 == r.1) rows → map row_view rows ≡ listing
    → option_map row_view (option_copied row) ≡ find (is_row_of code) listing
copied_row code rows listing row is same =
    ap (option_map row_view) (copied row ∙ is) ∙ found code rows ∙ ap (find (is_row_of code)) same
