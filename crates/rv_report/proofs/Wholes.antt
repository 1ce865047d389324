-- A whole report has a row of each job, from the first on.
use Rattle.std.proofs.Common.{◌≡◌, ◌∙◌, ◌==◌, ◌+◌, ◌-◌, ℕ, true, ◌&&◌, List, [], ◌∷◌, ◌++◌, length, refl, ap}
use Rattle.std.proofs.Common.{arith, subst}
use Rattle.std.specs.Prelude.{nat_le}
use Rattle.std.proofs.lemmas.Bool.{and_parts, eqb-true}
use Rattle.rv_report.specs.declared.row.Row.{Row}
use Rattle.rv_report.specs.Report.{row_text, rows_text, done_line, report_text}
use Rattle.rv_report.specs.declared.saved.Extent.{Extent}
use Rattle.rv_report.specs.declared.saved.Extent.TheVariants.{Whole}
use Rattle.rv_report.specs.declared.saved.SavedReport.{SavedReport}
use Rattle.rv_report.specs.Saved.{IsValidReport, are_evenly_spaced, matches_job_numbers, numbered_rows_text, extent_line, saved_text}

numbered_is_rows : (place last : ℕ) (ns : List ℕ) (rows : List Row) → are_evenly_spaced (place + 1) 1 last ns ≡ true
    → length ns ≡ length rows → numbered_rows_text ns rows ≡ rows_text place rows
unfolding are_evenly_spaced numbered_rows_text rows_text
numbered_is_rows place last [] [] h even = refl
numbered_is_rows place last [] (row ∷ rows) h even = absurd (omega arith)
numbered_is_rows place last (n ∷ ns) [] h even = absurd (omega arith)
numbered_is_rows place last (n ∷ ns) (row ∷ rows) h even =
    let later = are_evenly_spaced (place + 1 + 1) 1 last ns in
    let first = and_parts (n == (place + 1)) (nat_le n last && later) h in
    let is : n - 1 ≡ place = let e = eqb-true n (place + 1) first.0 in omega arith in
    ap (λ (k : ℕ). row_text k row ++ numbered_rows_text ns rows) is
    ∙ ap (λ (t : List ℕ). row_text place row ++ t)
    (numbered_is_rows (place + 1) last ns rows (and_parts (nat_le n last) later first.1).1 (omega arith))

pub whole_text : (r : SavedReport) → IsValidReport r → r.extent ≡ Whole → saved_text r ≡ report_text r.rows
unfolding saved_text report_text matches_job_numbers extent_line
whole_text r h is =
    let stepped : are_evenly_spaced 1 1 (length r.numbers) r.numbers ≡ true =
    subst (λ (e : Extent). matches_job_numbers e r.numbers ≡ true) is h.listed.fits in
    ap (λ (e : Extent). numbered_rows_text r.numbers r.rows ++ extent_line e (length r.rows)) is
    ∙ ap (λ (t : List ℕ). t ++ done_line (length r.rows))
    (numbered_is_rows 0 (length r.numbers) r.numbers r.rows stepped h.listed.counted)
