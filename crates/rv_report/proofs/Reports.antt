-- What is written is read again.
use Rattle.std.proofs.Common.{◌≡◌, ◌∙◌, ◌+◌, ◌-◌, ◌<◌, ◌≤◌, ℕ, Bool, true, false, ◌&&◌, not, cond}
use Rattle.std.proofs.Common.{List, [], ◌∷◌, ◌++◌, length, take, refl, sym, ap, arith, append_assoc, append-nil}
use Rattle.std.proofs.Common.{take_all, length-append}
use Rattle.std.specs.Prelude.{nat_le, nat_lt, is_some}
use Rattle.std.specs.List.{AllByRecursion}
use Rattle.std.proofs.lemmas.Bool.{and_parts}
use Rattle.std.proofs.lemmas.Bool.Decides.{nat_tests}
use Rattle.rv_base.specs.Names.{index_in}
use Rattle.rv_base.specs.Limits.{max_jobs}
use Rattle.rv_report.specs.declared.row.Row.{Row}
use Rattle.rv_report.specs.Report.{line, row_text}
use Rattle.rv_report.specs.declared.saved.Extent.{Extent}
use Rattle.rv_report.specs.declared.saved.Extent.TheVariants.{Whole, Selection}
use Rattle.rv_report.specs.declared.saved.SavedReport.{SavedReport}
use Rattle.rv_report.specs.LenientReport.{lines, ReaderStateView, state_between_rows, with_stage_done, with_line, with_lines, with_last_row_finished, state_after_text}
use Rattle.rv_report.specs.LenientReport.{lenient_report, increasing_count, count_before_repeated_name, extent_or_selection}
use Rattle.rv_report.specs.Saved.{IsValidRow, HasDistinctJobs, IsValidReport, are_increasing, are_distinct, matches_job_numbers, row_names, numbered_rows_text}
use Rattle.rv_report.specs.Saved.{saved_text}
use Rattle.rv_report.proofs.Cut.{few_numbers, length-names}
use Rattle.rv_report.proofs.Pieces.{lacks}
use Rattle.rv_report.proofs.Spelled.{says, says_line, row_says}
use Rattle.rv_report.proofs.Parts.{prove_row_has_numbers, last_words, last_is_line, last_says, lacks-last, HasNumbers}

pub rising_parts : (before last n : ℕ) (ns : List ℕ) → are_increasing before last (n ∷ ns) ≡ true
    → (before < n) × (n ≤ last) × (are_increasing n last ns ≡ true)
unfolding are_increasing
rising_parts before last n ns h =
    let first = and_parts (nat_lt before n) (nat_le n last && are_increasing n last ns) h in
    let then = and_parts (nat_le n last) (are_increasing n last ns) first.1 in
    (grind (arith, nat_tests), grind (arith, nat_tests), then.1)

pub rows_say : (numbers : List ℕ) (rows : List Row) (rest earlier : List ℕ) (done : List Row) (e : Extent) (before : ℕ)
    → AllByRecursion IsValidRow rows → length numbers ≡ length rows → are_increasing before max_jobs numbers ≡ true
    → length done + length rows ≤ max_jobs
    → says (numbered_rows_text numbers rows ++ rest) (state_between_rows earlier done e)
    ≡ says rest (state_between_rows (earlier ++ numbers) (done ++ rows) e)
unfolding numbered_rows_text
rows_say [] [] rest earlier done e before each counted rising few =
    ap (λ (ns : List ℕ). says rest (state_between_rows ns done e)) (sym (append-nil earlier))
    ∙ ap (λ (t : List Row). says rest (state_between_rows (earlier ++ []) t e)) (sym (append-nil done))
rows_say [] (row ∷ rows) rest earlier done e before each counted rising few = absurd (omega arith)
rows_say (n ∷ ns) [] rest earlier done e before each counted rising few = absurd (omega arith)
rows_say (n ∷ ns) (row ∷ rows) rest earlier done e before each counted rising few =
    let parts = rising_parts before max_jobs n ns rising in
    let low = parts.0 in
    let high = parts.1 in
    ap (λ (t : List ℕ). says t (state_between_rows earlier done e))
    (append_assoc (row_text (n - 1) row) (numbered_rows_text ns rows) rest)
    ∙ row_says (n - 1) n row (numbered_rows_text ns rows ++ rest) earlier done e each.0 (omega arith) (omega arith)
    (omega arith)
    ∙ rows_say ns rows rest (earlier ++ n ∷ []) (done ++ row ∷ []) e n each.1 (omega arith) parts.2
    (let longer = length-append done (row ∷ []) in omega arith)
    ∙ ap (λ (t : List ℕ). says rest (state_between_rows t ((done ++ row ∷ []) ++ rows) e)) (append_assoc earlier (n ∷ []) ns)
    ∙ ap (λ (t : List Row). says rest (state_between_rows (earlier ++ n ∷ ns) t e)) (append_assoc done (row ∷ []) rows)

-- the last line of all
pub last_line_says : (xs : List ℕ) (g : ReaderStateView) → lacks 10 xs ≡ true → says (line xs) g ≡ with_line xs g
unfolding lines with_lines
last_line_says xs g h =
    ap (λ (t : List ℕ). says t g) (sym (append-nil (line xs))) ∙ says_line xs [] g h

pub finished_all : (numbers : List ℕ) (rows : List Row) (e : Extent)
    → with_last_row_finished (with_stage_done (state_between_rows numbers rows e)) ≡ with_stage_done (state_between_rows numbers rows e)
unfolding with_last_row_finished state_between_rows
finished_all numbers rows e = refl

pub gathered_all : (r : SavedReport) → IsValidReport r → HasNumbers r.extent → length r.rows ≤ max_jobs
    → state_after_text (saved_text r) ≡ with_stage_done (state_between_rows r.numbers r.rows r.extent)
unfolding state_after_text saved_text
gathered_all r h known few =
    let count = length r.rows in
    ap (λ (t : List ℕ). with_last_row_finished (says (numbered_rows_text r.numbers r.rows ++ t) (state_between_rows [] [] Whole)))
    (last_is_line r.extent count)
    ∙ ap with_last_row_finished (rows_say r.numbers r.rows (line (last_words r.extent count)) [] [] Whole 0 h.rows h.listed.counted
    h.listed.rising (omega arith)
    ∙ last_line_says (last_words r.extent count) (state_between_rows r.numbers r.rows Whole)
    (lacks-last r.extent count known (omega arith))
    ∙ last_says r.extent count r.numbers r.rows known (omega arith))
    ∙ finished_all r.numbers r.rows r.extent

-- ---- nothing is cut

rising_all : (before : ℕ) (ns : List ℕ) → are_increasing before max_jobs ns ≡ true → increasing_count before ns ≡ length ns
unfolding increasing_count are_increasing
rising_all before [] h = refl
rising_all before (n ∷ ns) h =
    let first = and_parts (nat_lt before n) (nat_le n max_jobs && are_increasing n max_jobs ns) h in
    let then = and_parts (nat_le n max_jobs) (are_increasing n max_jobs ns) first.1 in
    ap (λ (t : Bool). cond (t && nat_le n max_jobs) (increasing_count n ns + 1) 0) first.0
    ∙ ap (λ (t : Bool). cond t (increasing_count n ns + 1) 0) then.0
    ∙ ap (λ (k : ℕ). k + 1) (rising_all n ns then.1) ∙ omega arith

pub not_not : (t : Bool) → not t ≡ true → t ≡ false
not_not true h = sym h
not_not false h = refl

new_all : (earlier texts : List (List ℕ)) → are_distinct earlier texts ≡ true → count_before_repeated_name earlier texts ≡ length texts
unfolding count_before_repeated_name are_distinct
new_all earlier [] h = refl
new_all earlier (t ∷ ts) h =
    let first = and_parts (not (is_some (index_in earlier t))) (are_distinct (earlier ++ t ∷ []) ts) h in
    ap (λ (b : Bool). cond b 0 (count_before_repeated_name (earlier ++ t ∷ []) ts + 1)) (not_not (is_some (index_in earlier t)) first.0)
    ∙ ap (λ (k : ℕ). k + 1) (new_all (earlier ++ t ∷ []) ts first.1) ∙ omega arith

fitting_same : (e : Extent) (ns : List ℕ) → matches_job_numbers e ns ≡ true → extent_or_selection e ns ≡ e
unfolding extent_or_selection
fitting_same e ns h = ap (λ (t : Bool). cond t e (Selection max_jobs)) h

-- what is kept of rows that were gathered
abbrev pub kept : ℕ → List Row → ReaderStateView → SavedReport
kept count rows g = record {
  extent = extent_or_selection g.extent (take count g.numbers);
  numbers = take count g.numbers;
  rows = take count rows;
}

abbrev pub said_of : List Row → ReaderStateView → SavedReport
said_of rising g = kept (count_before_repeated_name [] (row_names rising)) rising g

kept_all : (r : SavedReport) (count : ℕ) → HasDistinctJobs r → count ≡ length r.rows
    → kept count r.rows (with_stage_done (state_between_rows r.numbers r.rows r.extent)) ≡ r
unfolding state_between_rows
kept_all r count h is =
    let ns : take count r.numbers ≡ r.numbers = let c = h.counted in take_all count r.numbers (omega arith) in
    let rows : take count r.rows ≡ r.rows = take_all count r.rows (omega arith) in
    ap (λ (t : List ℕ). record { extent = extent_or_selection r.extent t; numbers = t; rows = take count r.rows }) ns
    ∙ ap (λ (t : List Row). record { extent = extent_or_selection r.extent r.numbers; numbers = r.numbers; rows = t }) rows
    ∙ ap (λ (e : Extent). record { extent = e; numbers = r.numbers; rows = r.rows })
    (fitting_same r.extent r.numbers h.fits)

-- a report says itself
pub said-saved : (r : SavedReport) → IsValidReport r → HasNumbers r.extent → length r.rows ≤ max_jobs
    → lenient_report (saved_text r) ≡ r
unfolding lenient_report state_between_rows
said-saved r h known few =
    let listed = h.listed in
    let counted = listed.counted in
    let all = rising_all 0 r.numbers listed.rising in
    let rising : take (increasing_count 0 r.numbers) r.rows ≡ r.rows =
    take_all (increasing_count 0 r.numbers) r.rows (omega arith) in
    ap (λ (g : ReaderStateView). said_of (take (increasing_count 0 g.numbers) g.rows) g) (gathered_all r h known few)
    ∙ ap (λ (rows : List Row). said_of rows (with_stage_done (state_between_rows r.numbers r.rows r.extent))) rising
    ∙ kept_all r (count_before_repeated_name [] (row_names r.rows)) listed
    (new_all [] (row_names r.rows) listed.new ∙ length-names r.rows)

-- a report that can be says itself
pub says_itself : (r : SavedReport) → IsValidReport r → lenient_report (saved_text r) ≡ r
says_itself r h =
    let counted = h.listed.counted in
    let few = few_numbers r.numbers h.listed.rising in
    said-saved r h (prove_row_has_numbers r.extent r.numbers h.listed.fits) (omega arith)

pub same_reports : (r other : SavedReport) → IsValidReport r → IsValidReport other → saved_text r ≡ saved_text other → r ≡ other
same_reports r other h k e = sym (says_itself r h) ∙ ap lenient_report e ∙ says_itself other k
