-- What is left once it is cut at the first row that can't stand there.
use Rattle.std.proofs.Common.{◌≡◌, ◌∙◌, ◌+◌, ◌<◌, ◌≤◌, ℕ, zero, suc, Bool, true, ◌&&◌, not, cond, List, []}
use Rattle.std.proofs.Common.{◌∷◌, ◌++◌, length, take, refl, sym, ap, arith, subst, inl, inr}
use Rattle.std.specs.Prelude.{nat_le, nat_lt, is_some}
use Rattle.std.specs.List.{list_all}
use Rattle.std.proofs.lemmas.Bool.{and_parts, and_from, cases_Bool}
use Rattle.std.proofs.lemmas.Bool.Decides.{nat_tests}
use Rattle.rv_base.specs.Names.{is_name, index_in}
use Rattle.rv_base.specs.Limits.{max_jobs}
use Rattle.rv_report.specs.declared.row.Row.{Row}
use Rattle.rv_report.specs.declared.saved.Extent.{Extent}
use Rattle.rv_report.specs.declared.saved.Extent.TheVariants.{Selection}
use Rattle.rv_report.specs.declared.saved.SavedReport.{SavedReport}
use Rattle.rv_report.specs.LenientReport.{ReaderStateView, increasing_count, count_before_repeated_name, extent_or_selection, state_after_text, lenient_report}
use Rattle.rv_report.specs.Saved.{IsValidReport, are_increasing, are_distinct, matches_job_numbers, row_names}
use Rattle.rv_report.proofs.Drafts.{AreGood, gathered_good}

-- the counts are not above the lengths
rising_within : (before : ℕ) (ns : List ℕ) → increasing_count before ns ≤ length ns
unfolding increasing_count
rising_within before [] = omega arith
rising_within before (n ∷ ns) =
    let k = rising_within n ns in
    elim (cases_Bool (nat_lt before n && nat_le n max_jobs)) [
      | inl e ↦
          let s : increasing_count before (n ∷ ns) ≡ increasing_count n ns + 1 =
          ap (λ (t : Bool). cond t (increasing_count n ns + 1) 0) e in
          omega arith
      | inr e ↦
          let s : increasing_count before (n ∷ ns) ≡ 0 = ap (λ (t : Bool). cond t (increasing_count n ns + 1) 0) e in
          omega arith
    ]

new_within : (earlier texts : List (List ℕ)) → count_before_repeated_name earlier texts ≤ length texts
unfolding count_before_repeated_name
new_within earlier [] = omega arith
new_within earlier (t ∷ ts) =
    let k = new_within (earlier ++ t ∷ []) ts in
    elim (cases_Bool (is_some (index_in earlier t))) [
      | inl e ↦
          let s : count_before_repeated_name earlier (t ∷ ts) ≡ 0 =
          ap (λ (b : Bool). cond b 0 (count_before_repeated_name (earlier ++ t ∷ []) ts + 1)) e in
          omega arith
      | inr e ↦
          let s : count_before_repeated_name earlier (t ∷ ts) ≡ count_before_repeated_name (earlier ++ t ∷ []) ts + 1 =
          ap (λ (b : Bool). cond b 0 (count_before_repeated_name (earlier ++ t ∷ []) ts + 1)) e in
          omega arith
    ]

rising_taken : (before count : ℕ) (ns : List ℕ) → count ≤ increasing_count before ns
    → are_increasing before max_jobs (take count ns) ≡ true
unfolding increasing_count are_increasing
rising_taken before zero ns h = refl
rising_taken before (suc count) [] h = refl
rising_taken before (suc count) (n ∷ ns) h =
    elim (cases_Bool (nat_lt before n && nat_le n max_jobs)) [
      | inl e ↦
          let s : increasing_count before (n ∷ ns) ≡ increasing_count n ns + 1 =
          ap (λ (t : Bool). cond t (increasing_count n ns + 1) 0) e in
          let parts = and_parts (nat_lt before n) (nat_le n max_jobs) e in
          and_from (nat_lt before n) (nat_le n max_jobs && are_increasing n max_jobs (take count ns)) parts.0
          (and_from (nat_le n max_jobs) (are_increasing n max_jobs (take count ns)) parts.1
          (rising_taken n count ns (omega arith)))
      | inr e ↦
          let s : increasing_count before (n ∷ ns) ≡ 0 = ap (λ (t : Bool). cond t (increasing_count n ns + 1) 0) e in
          absurd (omega arith)
    ]

new_taken : (earlier : List (List ℕ)) (count : ℕ) (rows : List Row) → count ≤ count_before_repeated_name earlier (row_names rows)
    → are_distinct earlier (row_names (take count rows)) ≡ true
unfolding count_before_repeated_name are_distinct
new_taken earlier zero rows h = refl
new_taken earlier (suc count) [] h = refl
new_taken earlier (suc count) (row ∷ rows) h =
    let t = row.name in
    let later = count_before_repeated_name (earlier ++ t ∷ []) (row_names rows) in
    elim (cases_Bool (is_some (index_in earlier t))) [
      | inl e ↦
          let s : count_before_repeated_name earlier (row_names (row ∷ rows)) ≡ 0 = ap (λ (b : Bool). cond b 0 (later + 1)) e in
          absurd (omega arith)
      | inr e ↦
          let s : count_before_repeated_name earlier (row_names (row ∷ rows)) ≡ later + 1 = ap (λ (b : Bool). cond b 0 (later + 1)) e in
          and_from (not (is_some (index_in earlier t))) (are_distinct (earlier ++ t ∷ []) (row_names (take count rows)))
          (ap not e) (new_taken (earlier ++ t ∷ []) count rows (omega arith))
    ]

-- the first rows of good ones are good, and have names
good_taken : (count : ℕ) (rows : List Row) → AreGood rows → AreGood (take count rows)
good_taken zero rows h = tt
good_taken (suc count) [] h = tt
good_taken (suc count) (row ∷ rows) h = (h.0, good_taken count rows h.1)

named_good : (rows : List Row) → AreGood rows → list_all is_name (row_names rows) ≡ true
named_good [] h = refl
named_good (row ∷ rows) h =
    and_from (is_name row.name) (list_all is_name (row_names rows)) h.0.name (named_good rows h.1)

taken_within : {X : Type 0} (count : ℕ) (xs : List X) → length (take count xs) ≤ count
taken_within zero xs = omega arith
taken_within (suc count) [] = omega arith
taken_within (suc count) (x ∷ xs) = let h = taken_within count xs in omega arith

fitting_fits : (e : Extent) (ns : List ℕ) → are_increasing 0 max_jobs ns ≡ true → matches_job_numbers (extent_or_selection e ns) ns ≡ true
unfolding extent_or_selection matches_job_numbers
fitting_fits e ns h =
    let P : Extent → Type 0 = λ x. matches_job_numbers x ns ≡ true in
    elim (cases_Bool (matches_job_numbers e ns)) [
      | inl t ↦ subst P (sym (ap (λ (b : Bool). cond b e (Selection max_jobs)) t)) t
      | inr t ↦ subst P (sym (ap (λ (b : Bool). cond b e (Selection max_jobs)) t))
          (and_from (nat_le max_jobs max_jobs) (are_increasing 0 max_jobs ns) refl h)
    ]

pub length-taken : {X : Type 0} (count : ℕ) (xs : List X) → count ≤ length xs → length (take count xs) ≡ count
length-taken zero xs h = refl
length-taken (suc count) [] h = absurd (omega arith)
length-taken (suc count) (x ∷ xs) h = ap suc (length-taken count xs (omega arith))

pub length-names : (rows : List Row) → length (row_names rows) ≡ length rows
length-names [] = refl
length-names (row ∷ rows) = ap suc (length-names rows)

cut_saved : (g : ReaderStateView) (rising : List Row) (count : ℕ) → rising ≡ take (increasing_count 0 g.numbers) g.rows
    → count ≡ count_before_repeated_name [] (row_names rising) → AreGood g.rows
    → IsValidReport (record {
      extent = extent_or_selection g.extent (take count g.numbers);
      numbers = take count g.numbers;
      rows = take count rising;
    })
cut_saved g rising count r is good =
    let most = increasing_count 0 g.numbers in
    let a = rising_within 0 g.numbers in
    let b = new_within [] (row_names rising) in
    let c = length-names rising in
    let d : length rising ≤ most =
    subst (λ (rows : List Row). length rows ≤ most) (sym r) (taken_within most g.rows) in
    let rises = rising_taken 0 count g.numbers (omega arith) in
    let rows : AreGood (take count rising) =
    good_taken count rising (subst (λ (rows : List Row). AreGood rows) (sym r) (good_taken most g.rows good)) in
    record {
      listed = record {
        counted = length-taken count g.numbers (omega arith) ∙ sym (length-taken count rising (omega arith));
        rising = rises;
        fits = fitting_fits g.extent (take count g.numbers) rises;
        names = named_good (take count rising) rows;
        new = new_taken [] count rising (omega arith);
      };
      rows = rows;
    }

-- what a text says can be a report
pub said_can_be : (text : List ℕ) → IsValidReport (lenient_report text)
unfolding lenient_report
said_can_be text =
    let g = state_after_text text in
    let rising = take (increasing_count 0 g.numbers) g.rows in
    cut_saved g rising (count_before_repeated_name [] (row_names rising)) refl refl (gathered_good text)

-- ---- how many there are

within_last : (before last : ℕ) (ns : List ℕ) → before ≤ last → are_increasing before last ns ≡ true
    → before + length ns ≤ last
unfolding are_increasing
within_last before last [] low h = omega arith
within_last before last (n ∷ ns) low h =
    let first = and_parts (nat_lt before n) (nat_le n last && are_increasing n last ns) h in
    let then = and_parts (nat_le n last) (are_increasing n last ns) first.1 in
    let a : before < n = grind (arith, nat_tests) in
    let b : n ≤ last = grind (arith, nat_tests) in
    let c = within_last n last ns b then.1 in
    omega arith

pub few_numbers : (ns : List ℕ) → are_increasing 0 max_jobs ns ≡ true → length ns ≤ max_jobs
few_numbers ns h = let k = within_last 0 max_jobs ns (omega arith) h in omega arith

pub few_cut : (g : ReaderStateView) (rising : List Row) (count : ℕ) → rising ≡ take (increasing_count 0 g.numbers) g.rows
    → count ≡ count_before_repeated_name [] (row_names rising) → length (take count g.numbers) ≤ max_jobs
few_cut g rising count r is =
    let most = increasing_count 0 g.numbers in
    let b = new_within [] (row_names rising) in
    let c = length-names rising in
    let d : length rising ≤ most =
    subst (λ (rows : List Row). length rows ≤ most) (sym r) (taken_within most g.rows) in
    few_numbers (take count g.numbers) (rising_taken 0 count g.numbers (omega arith))

-- the same, of what was worked out piece by piece
pub cut_made : (g : ReaderStateView) (rising : List Row) (count : ℕ) (e : Extent) (ns : List ℕ) (rs : List Row)
    → rising ≡ take (increasing_count 0 g.numbers) g.rows → count ≡ count_before_repeated_name [] (row_names rising)
    → ns ≡ take count g.numbers → rs ≡ take count rising → e ≡ extent_or_selection g.extent ns → AreGood g.rows
    → IsValidReport (record { extent = e; numbers = ns; rows = rs })
cut_made g rising count e ns rs up is n r x good =
    let e' = extent_or_selection g.extent (take count g.numbers) in
    subst (λ (y : SavedReport). IsValidReport y)
    (sym (ap (λ (t : Extent). record { extent = t; numbers = ns; rows = rs }) (x ∙ ap (extent_or_selection g.extent) n)
    ∙ ap (λ (t : List ℕ). record { extent = e'; numbers = t; rows = rs }) n
    ∙ ap (λ (t : List Row). record { extent = e'; numbers = take count g.numbers; rows = t }) r))
    (cut_saved g rising count up is good)

pub good_view : (g : ReaderStateView) (text : List ℕ) → g ≡ state_after_text text → AreGood g.rows
good_view g text is = subst (λ (x : ReaderStateView). AreGood x.rows) (sym is) (gathered_good text)
