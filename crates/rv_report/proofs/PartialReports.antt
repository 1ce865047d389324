-- The first rows of a report are a report, and rows that a text has whole.
use Rattle.std.proofs.Common.{◌≡◌, ◌∙◌, ◌+◌, ◌-◌, ◌<◌, ◌≤◌, ℕ, zero, suc, true, ◌&&◌, not, List, [], ◌∷◌, ◌++◌}
use Rattle.std.proofs.Common.{length, take, drop, get_or, refl, sym, ap, arith, subst, append_assoc}
use Rattle.std.specs.Prelude.{nat_le, nat_lt, is_some}
use Rattle.std.specs.List.{AllByRecursion, list_all}
use Rattle.std.proofs.lemmas.Bool.{and_parts, and_from}
use Rattle.rv_base.specs.Limits.{max_jobs}
use Rattle.rv_base.specs.Names.{is_name, index_in}
use Rattle.rv_report.specs.declared.row.Row.{Row}
use Rattle.rv_report.specs.declared.saved.Extent.TheVariants as extent
use Rattle.rv_report.specs.declared.saved.SavedReport.{SavedReport}
use Rattle.rv_report.specs.Differences.{line_feed_count}
use Rattle.rv_report.specs.FirstInvalidLine.{IsReportPrefix}
use Rattle.rv_report.specs.LenientReport.{lenient_report}
use Rattle.rv_report.specs.Partial.{BeginsWith, HasCompleteRows, first_rows, first_rows_text, complete_lines}
use Rattle.rv_report.specs.Report.{row_text}
use Rattle.rv_report.specs.Saved.{IsValidRow, IsValidReport, are_distinct, are_increasing, matches_job_numbers, numbered_rows_text, row_names}
use Rattle.rv_report.proofs.Cut.{length-taken, said_can_be}
use Rattle.rv_report.proofs.FirstInvalidLine.{lines_stay}
use Rattle.rv_report.proofs.Loops.{numbered_more}

-- ---- the first rows are a report

rising_first : (before last count : ℕ) (ns : List ℕ) → are_increasing before last ns ≡ true
    → are_increasing before last (take count ns) ≡ true
unfolding are_increasing
rising_first before last zero ns rising = refl
rising_first before last (suc count) [] rising = refl
rising_first before last (suc count) (n ∷ ns) rising =
    let first = and_parts (nat_lt before n) (nat_le n last && are_increasing n last ns) rising in
    let then = and_parts (nat_le n last) (are_increasing n last ns) first.1 in
    and_from (nat_lt before n) (nat_le n last && are_increasing n last (take count ns)) first.0
    (and_from (nat_le n last) (are_increasing n last (take count ns)) then.0 (rising_first n last count ns then.1))

fits : (ns : List ℕ) → are_increasing 0 max_jobs ns ≡ true → matches_job_numbers (extent.Selection max_jobs) ns ≡ true
unfolding matches_job_numbers
fits ns rising = and_from (nat_le max_jobs max_jobs) (are_increasing 0 max_jobs ns) refl rising

names_first : (count : ℕ) (rows : List Row) → list_all is_name (row_names rows) ≡ true
    → list_all is_name (row_names (take count rows)) ≡ true
names_first zero rows names = refl
names_first (suc count) [] names = refl
names_first (suc count) (row ∷ rows) names =
    let parts = and_parts (is_name row.name) (list_all is_name (row_names rows)) names in
    and_from (is_name row.name) (list_all is_name (row_names (take count rows))) parts.0 (names_first count rows parts.1)

new_first : (earlier : List (List ℕ)) (count : ℕ) (rows : List Row) → are_distinct earlier (row_names rows) ≡ true
    → are_distinct earlier (row_names (take count rows)) ≡ true
unfolding are_distinct
new_first earlier zero rows new = refl
new_first earlier (suc count) [] new = refl
new_first earlier (suc count) (row ∷ rows) new =
    let behind = earlier ++ row.name ∷ [] in
    let parts = and_parts (not (is_some (index_in earlier row.name))) (are_distinct behind (row_names rows)) new in
    and_from (not (is_some (index_in earlier row.name))) (are_distinct behind (row_names (take count rows))) parts.0
    (new_first behind count rows parts.1)

rows_first : (count : ℕ) (rows : List Row) → AllByRecursion IsValidRow rows → AllByRecursion IsValidRow (take count rows)
rows_first zero rows are = tt
rows_first (suc count) [] are = tt
rows_first (suc count) (row ∷ rows) are = (are.0, rows_first count rows are.1)

pub saved_first : (report : SavedReport) (count : ℕ) → IsValidReport report → count ≤ length report.rows
    → IsValidReport (first_rows count report)
saved_first report count is within =
    let counted = is.listed.counted in
    let rises = rising_first 0 max_jobs count report.numbers is.listed.rising in
    record {
      listed = record {
        counted = length-taken count report.numbers (omega arith) ∙ sym (length-taken count report.rows within);
        rising = rises;
        fits = fits (take count report.numbers) rises;
        names = names_first count report.rows is.listed.names;
        new = new_first [] count report.rows is.listed.new;
      };
      rows = rows_first count report.rows is.rows;
    }

-- ---- they are those that a text has whole

-- what is known of so many rows that a text's lines say
abbrev pub AreWholeRows : List ℕ → ℕ → SavedReport → Type 0
AreWholeRows bytes count said = (count ≤ length said.rows) × BeginsWith bytes (first_rows_text count said)
    × (count < length said.rows → BeginsWith bytes (first_rows_text (count + 1) said) → ⊥)

pub whole_rows : (bytes : List ℕ) (count : ℕ) → IsReportPrefix (complete_lines bytes)
    → AreWholeRows bytes count (lenient_report bytes) → HasCompleteRows bytes (lenient_report bytes) count
whole_rows bytes count begins are = record {
  valid = said_can_be bytes;
  begins = lines_stay bytes (line_feed_count bytes) (omega arith) begins;
  within = are.0;
  prefix = are.1;
  longest = are.2;
}

pub saved_read : (bytes : List ℕ) (count : ℕ) (read : SavedReport) → read ≡ first_rows count (lenient_report bytes)
    → count ≤ length (lenient_report bytes).rows → IsValidReport read
saved_read bytes count read is within =
    subst IsValidReport (sym is) (saved_first (lenient_report bytes) count (said_can_be bytes) within)

-- ---- row by row

-- the text of one row more, behind which a text goes on
pub one_more_row : (bytes rest behind : List ℕ) (numbers : List ℕ) (rows : List Row) (at n : ℕ) (row : Row)
    → at < length rows → length numbers ≡ length rows → get_or numbers at 0 ≡ n → get_or rows at row ≡ row
    → bytes ≡ numbered_rows_text (take at numbers) (take at rows) ++ rest → rest ≡ row_text (n - 1) row ++ behind
    → bytes ≡ numbered_rows_text (take (suc at) numbers) (take (suc at) rows) ++ behind
one_more_row bytes rest behind numbers rows at n row within counted is of here more =
    let taken = numbered_rows_text (take at numbers) (take at rows) in
    let longer = numbered_more numbers rows at n (n - 1) row within counted is refl in
    here ∙ ap (λ (text : List ℕ). taken ++ text) more ∙ sym (append_assoc taken (row_text (n - 1) row) behind)
    ∙ ap (λ (r : Row). (taken ++ row_text (n - 1) r) ++ behind) (sym of)
    ∙ ap (λ (text : List ℕ). text ++ behind) (sym longer)

same_behind : (first xs ys : List ℕ) → first ++ xs ≡ first ++ ys → xs ≡ ys
same_behind [] xs ys is = is
same_behind (b ∷ first) xs ys is = same_behind first xs ys (ap (λ (text : List ℕ). drop 1 text) is)

-- a text that goes on otherwise does not have one row more
pub no_more_row : (bytes rest : List ℕ) (numbers : List ℕ) (rows : List Row) (at n : ℕ) (row : Row)
    → at < length rows → length numbers ≡ length rows → get_or numbers at 0 ≡ n → get_or rows at row ≡ row
    → bytes ≡ numbered_rows_text (take at numbers) (take at rows) ++ rest
    → ((behind : List ℕ) → rest ≡ row_text (n - 1) row ++ behind → ⊥)
    → BeginsWith bytes (numbered_rows_text (take (suc at) numbers) (take (suc at) rows)) → ⊥
no_more_row bytes rest numbers rows at n row within counted is of here other begins =
    let taken = numbered_rows_text (take at numbers) (take at rows) in
    let longer = numbered_more numbers rows at n (n - 1) row within counted is refl in
    other begins.0 (same_behind taken rest (row_text (n - 1) row ++ begins.0)
    (sym here ∙ begins.1 ∙ ap (λ (text : List ℕ). text ++ begins.0) longer
    ∙ ap (λ (r : Row). (taken ++ row_text (n - 1) r) ++ begins.0) of
    ∙ append_assoc taken (row_text (n - 1) row) begins.0))
