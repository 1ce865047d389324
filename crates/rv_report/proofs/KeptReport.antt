-- The first lines of a report are those of what a text says that begins so.
use Rattle.std.proofs.Common.{◌≡◌, ◌∙◌, ◌+◌, ◌-◌, ◌≤◌, ℕ, zero, suc, Bool, true, ◌&&◌, not, cond, List, [], ◌∷◌, ◌++◌}
use Rattle.std.proofs.Common.{length, take, refl, sym, ap, arith, subst, append_assoc, append-nil, length-append, take_all, inl, inr}
use Rattle.std.specs.Prelude.{nat_le, nat_lt, is_some}
use Rattle.std.proofs.lemmas.Bool.{and_parts, and_from, cases_lt}
use Rattle.std.proofs.lemmas.List.{take-append-le, take-map, map-append}
use Rattle.rv_base.specs.Names.{index_in}
use Rattle.rv_base.specs.Limits.{max_jobs}
use Rattle.rv_report.specs.declared.row.Row.{Row}
use Rattle.rv_report.specs.declared.saved.Extent.{Extent}
use Rattle.rv_report.specs.declared.saved.Extent.TheVariants.{Whole}
use Rattle.rv_report.specs.declared.saved.SavedReport.{SavedReport}
use Rattle.rv_report.specs.Report.{line}
use Rattle.rv_report.specs.LenientReport.{lines, ReaderStateView, state_between_rows, with_last_row_finished, state_after_text}
use Rattle.rv_report.specs.LenientReport.{lenient_report, increasing_count, count_before_repeated_name, extent_or_selection}
use Rattle.rv_report.specs.Saved.{IsValidReport, are_increasing, are_distinct, row_names, numbered_rows_text, extent_line, saved_text}
use Rattle.rv_report.proofs.Spelled.{says, says_line}
use Rattle.rv_report.proofs.Parts.{last_words, last_is_line, last_says, lacks-last, prove_row_has_numbers}
use Rattle.rv_report.proofs.Cut.{few_numbers, length-names, length-taken}
use Rattle.rv_report.proofs.Reports.{rows_say, finished_all, gathered_all, not_not, said_of, says_itself}
use Rattle.rv_report.proofs.LineLists.{joined}
use Rattle.rv_report.proofs.RecordedRow.{over_lines}
use Rattle.rv_report.proofs.RowLines.{row_lines, numbered_lines, saved_lines, joined_saved}
use Rattle.rv_report.proofs.CollectedRows.{Covers, rows_covered, take_past}

-- ---- what can stand in a report isn't cut

rising_first : (before c : ℕ) (ns more : List ℕ) → are_increasing before max_jobs ns ≡ true
    → length (take c ns) ≤ increasing_count before (take c ns ++ more)
unfolding increasing_count are_increasing
rising_first before zero ns more h = omega arith
rising_first before (suc c) [] more h = omega arith
rising_first before (suc c) (n ∷ ns) more h =
    let first = and_parts (nat_lt before n) (nat_le n max_jobs && are_increasing n max_jobs ns) h in
    let then = and_parts (nat_le n max_jobs) (are_increasing n max_jobs ns) first.1 in
    let later = rising_first n c ns more then.1 in
    let s : increasing_count before (n ∷ (take c ns ++ more)) ≡ increasing_count n (take c ns ++ more) + 1 =
    ap (λ (t : Bool). cond t (increasing_count n (take c ns ++ more) + 1) 0)
    (and_from (nat_lt before n) (nat_le n max_jobs) first.0 then.0) in
    omega arith

new_first : (earlier : List (List ℕ)) (c : ℕ) (texts more : List (List ℕ)) → are_distinct earlier texts ≡ true
    → length (take c texts) ≤ count_before_repeated_name earlier (take c texts ++ more)
unfolding count_before_repeated_name are_distinct
new_first earlier zero texts more h = omega arith
new_first earlier (suc c) [] more h = omega arith
new_first earlier (suc c) (t ∷ ts) more h =
    let first = and_parts (not (is_some (index_in earlier t))) (are_distinct (earlier ++ t ∷ []) ts) h in
    let later = new_first (earlier ++ t ∷ []) c ts more first.1 in
    let next = count_before_repeated_name (earlier ++ t ∷ []) (take c ts ++ more) in
    let s : count_before_repeated_name earlier (t ∷ (take c ts ++ more)) ≡ next + 1 =
    ap (λ (b : Bool). cond b 0 (next + 1)) (not_not (is_some (index_in earlier t)) first.0) in
    omega arith

numbered_append : (ks bs : List ℕ) (xs ys : List Row) → length ks ≡ length xs
    → numbered_lines (ks ++ bs) (xs ++ ys) ≡ numbered_lines ks xs ++ numbered_lines bs ys
numbered_append [] bs [] ys h = refl
numbered_append [] bs (x ∷ xs) ys h = absurd (omega arith)
numbered_append (a ∷ ks) bs [] ys h = absurd (omega arith)
numbered_append (a ∷ ks) bs (x ∷ xs) ys h =
    ap (λ (t : List (List ℕ)). row_lines a x ++ t) (numbered_append ks bs xs ys (omega arith))
    ∙ sym (append_assoc (row_lines a x) (numbered_lines ks xs) (numbered_lines bs ys))

-- what is said, of what is gathered
abbrev pub said_by : ReaderStateView → SavedReport
said_by g = said_of (take (increasing_count 0 g.numbers) g.rows) g

-- what is taken of two lists, of which the first is there
taken_with : {X : Type 0} (count : ℕ) (all xs ys : List X) → all ≡ xs ++ ys → length xs ≤ count
    → take count all ≡ xs ++ take (count - length xs) ys
taken_with count all xs ys is enough =
    ap (λ t. take count t) is ∙ take_past xs ys count (count - length xs) (omega arith)

enough_rise : (c : ℕ) (ns numbers more : List ℕ) → numbers ≡ take c ns ++ more → are_increasing 0 max_jobs ns ≡ true
    → c ≤ length ns → c ≤ increasing_count 0 numbers
enough_rise c ns numbers more is h within =
    let a = length-taken c ns within in
    let k = subst (λ (t : List ℕ). length (take c ns) ≤ increasing_count 0 t) (sym is) (rising_first 0 c ns more h) in
    omega arith

enough_new : (c : ℕ) (rows rising first more : List Row) → rising ≡ first ++ more
    → row_names first ≡ row_names (take c rows) → are_distinct [] (row_names rows) ≡ true → c ≤ length rows
    → c ≤ count_before_repeated_name [] (row_names rising)
enough_new c rows rising first more is names h within =
    let n = length-names rows in
    let a = length-taken c (row_names rows) (omega arith) in
    let are : row_names rising ≡ take c (row_names rows) ++ row_names more =
    ap row_names is ∙ map-append (λ (row : Row). row.name) first more
    ∙ ap (λ (t : List (List ℕ)). t ++ row_names more) (names ∙ sym (take-map (λ (row : Row). row.name) c rows)) in
    let k = subst (λ (t : List (List ℕ)). length (take c (row_names rows)) ≤ count_before_repeated_name [] t) (sym are)
    (new_first [] c (row_names rows) (row_names more) h) in
    omega arith

four : (a b c d : List (List ℕ)) → ((a ++ b) ++ c) ++ d ≡ a ++ ((b ++ c) ++ d)
four a b c d = ap (λ (t : List (List ℕ)). t ++ d) (append_assoc a b c) ∙ append_assoc a (b ++ c) d

-- the lines of a report of these numbers and rows
lines_with : (numbers ks bs : List ℕ) (rows xs ys : List Row) (last known more : List (List ℕ)) → numbers ≡ ks ++ bs
    → rows ≡ xs ++ ys → length ks ≡ length xs → numbered_lines ks xs ≡ known ++ more
    → numbered_lines numbers rows ++ last ≡ known ++ ((more ++ numbered_lines bs ys) ++ last)
lines_with numbers ks bs rows xs ys last known more n r even is =
    ap (λ (t : List ℕ). numbered_lines t rows ++ last) n
    ∙ ap (λ (t : List Row). numbered_lines (ks ++ bs) t ++ last) r
    ∙ ap (λ (t : List (List ℕ)). t ++ last) (numbered_append ks bs xs ys even)
    ∙ ap (λ (t : List (List ℕ)). (t ++ numbered_lines bs ys) ++ last) is
    ∙ four known more (numbered_lines bs ys) last

-- the known lines are said, and how the lines go on behind them: some of the numbers have rows, and a
-- last line follows
pub record SaidLines (known more : List (List ℕ)) (numbers : List ℕ) (e : Extent) (ls : List (List ℕ)) : Type 0 where
  pub taken : ℕ
  pub rows : List Row
  pub all_numbers : List ℕ
  pub count : ℕ
  pub are : ls ≡ known ++ ((more ++ numbered_lines (take taken numbers) rows)
      ++ last_words (extent_or_selection e all_numbers) count ∷ [])

-- the rows that are covered are said
pub kept_cut : (r : SavedReport) → IsValidReport r → (k : ℕ) (f : ReaderStateView) → (c : Covers [] [] r.numbers r.rows k f)
    → SaidLines (take k (numbered_lines r.numbers r.rows)) c.more c.more_numbers f.extent (saved_lines (said_by f))
kept_cut r h k f c =
    let counted = h.listed.counted in
    let within = c.within in
    let ks = take c.count r.numbers in
    let la : length ks ≡ c.count = length-taken c.count r.numbers (omega arith) in
    let lf : length c.first ≡ c.count = sym (length-names c.first) ∙ ap (λ (t : List (List ℕ)). length t) c.names
    ∙ length-names (take c.count r.rows) ∙ length-taken c.count r.rows within in
    let rc = increasing_count 0 f.numbers in
    let enough : c.count ≤ rc = enough_rise c.count r.numbers f.numbers c.more_numbers c.numbers_are h.listed.rising (omega arith) in
    let rising = take rc f.rows in
    let mr = take (rc - length c.first) c.more_rows in
    let rising_is : rising ≡ c.first ++ mr = taken_with rc f.rows c.first c.more_rows c.rows_are (omega arith) in
    let count = count_before_repeated_name [] (row_names rising) in
    let new : c.count ≤ count = enough_new c.count r.rows rising c.first mr rising_is c.names h.listed.new within in
    let numbers = take count f.numbers in
    let bs = take (count - length ks) c.more_numbers in
    let ys = take (count - length c.first) mr in
    let last = last_words (extent_or_selection f.extent numbers) (length (take count rising)) ∷ [] in
    record {
      taken = count - length ks;
      rows = ys;
      all_numbers = numbers;
      count = length (take count rising);
      are = lines_with numbers ks bs (take count rising) c.first ys last (take k (numbered_lines r.numbers r.rows)) c.more
          (taken_with count f.numbers ks c.more_numbers c.numbers_are (omega arith))
          (taken_with count rising c.first mr rising_is (omega arith)) (la ∙ sym lf) c.lines;
    }

-- ---- a whole report says itself, whatever follows

gathered_past : (r : SavedReport) → IsValidReport r → (w : List ℕ) → state_after_text (saved_text r ++ w) ≡ state_after_text (saved_text r)
unfolding state_after_text saved_text
gathered_past r h w =
    let counted = h.listed.counted in
    let few = few_numbers r.numbers h.listed.rising in
    let known = prove_row_has_numbers r.extent r.numbers h.listed.fits in
    let count = length r.rows in
    let last = last_words r.extent count in
    let start = state_between_rows [] [] Whole in
    ap (λ (t : List ℕ). with_last_row_finished (says t start))
    (append_assoc (numbered_rows_text r.numbers r.rows) (extent_line r.extent count) w)
    ∙ ap (λ (t : List ℕ). with_last_row_finished (says (numbered_rows_text r.numbers r.rows ++ (t ++ w)) start))
    (last_is_line r.extent count)
    ∙ ap with_last_row_finished (rows_say r.numbers r.rows (line last ++ w) [] [] Whole 0 h.rows counted h.listed.rising
    (omega arith)
    ∙ says_line last w (state_between_rows r.numbers r.rows Whole) (lacks-last r.extent count known (omega arith))
    ∙ ap (says w) (last_says r.extent count r.numbers r.rows known (omega arith))
    ∙ over_lines (lines w) (state_between_rows r.numbers r.rows r.extent))
    ∙ finished_all r.numbers r.rows r.extent
    ∙ sym (gathered_all r h known (omega arith))

says_itself_past : (r : SavedReport) → IsValidReport r → (w : List ℕ) → lenient_report (saved_text r ++ w) ≡ r
unfolding lenient_report
says_itself_past r h w = ap said_by (gathered_past r h w) ∙ says_itself r h

-- ---- all first lines

abbrev pub said_lines : List ℕ → List (List ℕ)
said_lines text = saved_lines (lenient_report text)

-- lines of the rows
rows_kept : (r : SavedReport) → IsValidReport r → (k : ℕ) (w : List ℕ) → k ≤ length (numbered_lines r.numbers r.rows)
    → (more : List (List ℕ)) × (said_lines (joined (take k (numbered_lines r.numbers r.rows)) ++ w)
    ≡ take k (numbered_lines r.numbers r.rows) ++ more)
unfolding lenient_report state_after_text
rows_kept r h k w within =
    let counted = h.listed.counted in
    let few = few_numbers r.numbers h.listed.rising in
    let start = state_between_rows [] [] Whole in
    let f = with_last_row_finished (says (joined (take k (numbered_lines r.numbers r.rows)) ++ w) start) in
    let c = rows_covered k r.numbers r.rows w [] [] Whole 0 h.rows counted h.listed.rising (omega arith) within in
    let s = kept_cut r h k f c in (
      (c.more ++ numbered_lines (take s.taken c.more_numbers) s.rows)
          ++ last_words (extent_or_selection f.extent s.all_numbers) s.count ∷ [],
      s.are,
    )

-- all lines
all_kept : (r : SavedReport) → IsValidReport r → (w : List ℕ) → said_lines (joined (saved_lines r) ++ w) ≡ saved_lines r
all_kept r h w =
    ap (λ (t : List ℕ). said_lines (t ++ w)) (joined_saved r h) ∙ ap saved_lines (says_itself_past r h w)

-- the first lines of a report are kept, however many
pub lines_kept : (r : SavedReport) → IsValidReport r → (k : ℕ) (w : List ℕ) → (more : List (List ℕ))
    × (said_lines (joined (take k (saved_lines r)) ++ w) ≡ take k (saved_lines r) ++ more)
lines_kept r h k w =
    let rows = numbered_lines r.numbers r.rows in
    let last = last_words r.extent (length r.rows) in
    let all = length-append rows (last ∷ []) in
    let P : List (List ℕ) → Type 0 = λ ls. (more : List (List ℕ)) × (said_lines (joined ls ++ w) ≡ ls ++ more) in
    elim (cases_lt (length rows) k) [
      | inl past ↦
          subst P (sym (take_all k (saved_lines r) (omega arith)))
          ([], all_kept r h w ∙ sym (append-nil (saved_lines r)))
      | inr inside ↦ subst P (sym (take-append-le k rows (last ∷ []) (omega arith))) (rows_kept r h k w (omega arith))
    ]
