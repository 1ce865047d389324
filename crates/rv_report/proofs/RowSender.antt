-- The text of rows, row by row.
use Rattle.std.proofs.Common.{◌≡◌, ◌∙◌, ◌+◌, ◌<◌, ℕ, zero, suc, List, [], ◌∷◌, ◌++◌, ap, sym, length}
use Rattle.std.proofs.Common.{take, drop, get_or, arith, append_assoc, append-nil, refl}
use Rattle.rv_report.specs.declared.row.Row.{Row}
use Rattle.rv_report.specs.Report.{row_text, rows_text}

-- one row more
pub rows_more : (from : ℕ) (rows : List Row) (at place : ℕ) (default : Row) → at < length rows → place ≡ from + at
    → rows_text from (take (suc at) rows) ≡ rows_text from (take at rows) ++ row_text place (get_or rows at default)
unfolding rows_text
rows_more from [] at place default within is = absurd (omega arith)
rows_more from (row ∷ rows) zero place default within is =
    let same : place ≡ from = omega arith in rw same (append-nil (row_text from row))
rows_more from (row ∷ rows) (suc at) place default within is =
    ap (λ text. row_text from row ++ text) (rows_more (from + 1) rows at place default (omega arith) (omega arith))
    ∙ sym (append_assoc (row_text from row) (rows_text (from + 1) (take at rows))
    (row_text place (get_or rows at default)))

-- the first rows, and the rest
pub rows_split : (from : ℕ) (rows : List Row) (at place : ℕ) → place ≡ from + at
    → rows_text from rows ≡ rows_text from (take at rows) ++ rows_text place (drop at rows)
unfolding rows_text
rows_split from [] zero place is = refl
rows_split from [] (suc at) place is = refl
rows_split from (row ∷ rows) zero place is = let same : place ≡ from = omega arith in rw same refl
rows_split from (row ∷ rows) (suc at) place is =
    ap (λ text. row_text from row ++ text) (rows_split (from + 1) rows at place (omega arith))
    ∙ sym (append_assoc (row_text from row) (rows_text (from + 1) (take at rows)) (rows_text place (drop at rows)))
