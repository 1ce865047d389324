-- Rows that have a line among the first of a report's are there, whatever follows.
use Rattle.std.proofs.Common.{◌≡◌, ◌∙◌, ◌+◌, ◌-◌, ◌<◌, ◌≤◌, ◌^◌, ℕ, zero, suc, true, List, [], ◌∷◌, ◌++◌, length}
use Rattle.std.proofs.Common.{take, refl, sym, ap, arith, subst, append_assoc, append-nil, length-append, inl, inr}
use Rattle.std.specs.List.{AllByRecursion}
use Rattle.std.proofs.lemmas.Bool.{cases_lt}
use Rattle.std.proofs.lemmas.Grind.{flat_map-append}
use Rattle.std.proofs.lemmas.List.{take-append-le}
use Rattle.rv_base.specs.Limits.{max_jobs}
use Rattle.rv_report.specs.declared.row.Row.{Row}
use Rattle.rv_report.specs.declared.saved.Extent.{Extent}
use Rattle.rv_report.specs.Report.{line, row_text}
use Rattle.rv_report.specs.LenientReport.{lines, ReaderStateView, state_between_rows, with_last_row_finished}
use Rattle.rv_report.specs.Saved.{IsValidRow, are_increasing, row_names}
use Rattle.rv_report.proofs.Spelled.{says, row_says}
use Rattle.rv_report.proofs.Reports.{rising_parts}
use Rattle.rv_report.proofs.LineLists.{joined}
use Rattle.rv_report.proofs.Grown.{Extends, grown}
use Rattle.rv_report.proofs.RecordedRow.{HasRow}
use Rattle.rv_report.proofs.RowLines.{row_lines, numbered_lines, joined_row}
use Rattle.rv_report.proofs.PartialRow.{Agrees, partial_row}

-- so many rows have a line among the first: behind the earlier rows there are as many, with the same
-- numbers and names, whose lines begin with those
pub record Covers (earlier : List ℕ) (done : List Row) (ns : List ℕ) (rows : List Row) (k : ℕ) (f : ReaderStateView) : Type 0 where
  pub count : ℕ
  pub within : count ≤ length rows
  pub first : List Row
  pub more_numbers : List ℕ
  pub more_rows : List Row
  pub more : List (List ℕ)
  pub numbers_are : f.numbers ≡ earlier ++ (take count ns ++ more_numbers)
  pub rows_are : f.rows ≡ done ++ (first ++ more_rows)
  pub names : row_names first ≡ row_names (take count rows)
  pub lines : numbered_lines (take count ns) first ≡ take k (numbered_lines ns rows) ++ more

-- no line of them
unfoldable pub none_covered : (earlier : List ℕ) (done : List Row) (ns : List ℕ) (rows : List Row) (f : ReaderStateView) → Extends earlier done f
    → Covers earlier done ns rows zero f
none_covered earlier done ns rows f h = record {
  count = zero;
  within = omega arith;
  first = [];
  more_numbers = h.more_numbers;
  more_rows = h.more_rows;
  more = [];
  numbers_are = h.numbers_are;
  rows_are = h.rows_are;
  names = refl;
  lines = refl;
}

-- no rows
empty_covered : (earlier : List ℕ) (done : List Row) (k : ℕ) (f : ReaderStateView) → Extends earlier done f
    → Covers earlier done [] [] k f
empty_covered earlier done zero f h = none_covered earlier done [] [] f h
empty_covered earlier done (suc k) f h = record {
  count = zero;
  within = omega arith;
  first = [];
  more_numbers = h.more_numbers;
  more_rows = h.more_rows;
  more = [];
  numbers_are = h.numbers_are;
  rows_are = h.rows_are;
  names = refl;
  lines = refl;
}

-- some lines of the first row
unfoldable pub one_covered : (earlier : List ℕ) (done : List Row) (n : ℕ) (ns : List ℕ) (row : Row) (rows : List Row) (k : ℕ) (f : ReaderStateView)
    → k ≤ length (row_lines n row) → HasRow earlier done n (Agrees n row k) f
    → Covers earlier done (n ∷ ns) (row ∷ rows) k f
one_covered earlier done n ns row rows k f few h = record {
  count = suc zero;
  within = omega arith;
  first = h.row ∷ [];
  more_numbers = h.more_numbers;
  more_rows = h.more_rows;
  more = h.knows.more;
  numbers_are = h.numbers_are;
  rows_are = h.rows_are;
  names = ap (λ (t : List ℕ). t ∷ []) h.knows.name;
  lines = append-nil (row_lines n h.row) ∙ h.knows.lines
      ∙ ap (λ (t : List (List ℕ)). t ++ h.knows.more)
      (sym (take-append-le k (row_lines n row) (numbered_lines ns rows) few));
}

pub take_past : {X : Type 0} (xs ys : List X) (k i : ℕ) → k ≡ length xs + i → take k (xs ++ ys) ≡ xs ++ take i ys
take_past [] ys k i is = ap (λ (n : ℕ). take n ys) (let e : k ≡ i = omega arith in e)
take_past (x ∷ xs) ys zero i is = absurd (omega arith)
take_past (x ∷ xs) ys (suc k) i is = ap (λ t. x ∷ t) (take_past xs ys k i (omega arith))

-- the first row, and lines of those behind it
unfoldable pub more_covered : (earlier : List ℕ) (done : List Row) (n : ℕ) (ns : List ℕ) (row : Row) (rows : List Row) (k i : ℕ)
    (f : ReaderStateView) → k ≡ length (row_lines n row) + i
    → Covers (earlier ++ n ∷ []) (done ++ row ∷ []) ns rows i f
    → Covers earlier done (n ∷ ns) (row ∷ rows) k f
more_covered earlier done n ns row rows k i f is h =
    let within = h.within in
    record {
      count = suc h.count;
      within = omega arith;
      first = row ∷ h.first;
      more_numbers = h.more_numbers;
      more_rows = h.more_rows;
      more = h.more;
      numbers_are = h.numbers_are ∙ append_assoc earlier (n ∷ []) (take h.count ns ++ h.more_numbers);
      rows_are = h.rows_are ∙ append_assoc done (row ∷ []) (h.first ++ h.more_rows);
      names = ap (λ (t : List (List ℕ)). row.name ∷ t) h.names;
      lines = ap (λ (t : List (List ℕ)). row_lines n row ++ t) h.lines
          ∙ sym (append_assoc (row_lines n row) (take i (numbered_lines ns rows)) h.more)
          ∙ ap (λ (t : List (List ℕ)). t ++ h.more)
          (sym (take_past (row_lines n row) (numbered_lines ns rows) k i is));
    }

-- a whole row is read
pub whole_row_says : (n : ℕ) (row : Row) (ls : List (List ℕ)) (w earlier : List ℕ) (done : List Row) (e : Extent) → IsValidRow row
    → 0 < n → n < 2 ^ 32 → length done < max_jobs
    → says (joined (row_lines n row ++ ls) ++ w) (state_between_rows earlier done e)
    ≡ says (joined ls ++ w) (state_between_rows (earlier ++ n ∷ []) (done ++ row ∷ []) e)
whole_row_says n row ls w earlier done e is some small few =
    let g = state_between_rows earlier done e in
    let same : n - 1 + 1 ≡ n = omega arith in
    ap (λ (t : List ℕ). says (t ++ w) g) (flat_map-append line (row_lines n row) ls)
    ∙ ap (λ (t : List ℕ). says ((t ++ joined ls) ++ w) g) (joined_row n (n - 1) row same)
    ∙ ap (λ (t : List ℕ). says t g) (append_assoc (row_text (n - 1) row) (joined ls) w)
    ∙ row_says (n - 1) n row (joined ls ++ w) earlier done e is same small few

pub between_grown : (w earlier : List ℕ) (done : List Row) (e : Extent)
    → Extends earlier done (with_last_row_finished (says w (state_between_rows earlier done e)))
unfolding state_between_rows
between_grown w earlier done e = grown (lines w) (state_between_rows earlier done e)

row_begun : (k n : ℕ) (row : Row) (w earlier : List ℕ) (done : List Row) (e : Extent) → IsValidRow row → n < 2 ^ 32
    → length done < max_jobs → 0 < k → k < length (row_lines n row)
    → HasRow earlier done n (Agrees n row k)
    (with_last_row_finished (says (joined (take k (row_lines n row)) ++ w) (state_between_rows earlier done e)))
unfolding state_between_rows
row_begun k n row w earlier done e is small few some within =
    partial_row k n row w (state_between_rows earlier done e) is small few (omega arith) some within

pub rows_covered : (k : ℕ) (ns : List ℕ) (rows : List Row) (w earlier : List ℕ) (done : List Row) (e : Extent) (before : ℕ)
    → AllByRecursion IsValidRow rows → length ns ≡ length rows → are_increasing before max_jobs ns ≡ true
    → length done + length rows ≤ max_jobs → k ≤ length (numbered_lines ns rows)
    → Covers earlier done ns rows k
    (with_last_row_finished (says (joined (take k (numbered_lines ns rows)) ++ w) (state_between_rows earlier done e)))
rows_covered zero ns rows w earlier done e before each counted rising few within =
    none_covered earlier done ns rows (with_last_row_finished (says w (state_between_rows earlier done e)))
    (between_grown w earlier done e)
rows_covered (suc k) [] [] w earlier done e before each counted rising few within =
    empty_covered earlier done (suc k) (with_last_row_finished (says w (state_between_rows earlier done e)))
    (between_grown w earlier done e)
rows_covered (suc k) [] (row ∷ rows) w earlier done e before each counted rising few within = absurd (omega arith)
rows_covered (suc k) (n ∷ ns) [] w earlier done e before each counted rising few within = absurd (omega arith)
rows_covered (suc k) (n ∷ ns) (row ∷ rows) w earlier done e before each counted rising few within =
    let parts = rising_parts before max_jobs n ns rising in
    let low : before < n = parts.0 in
    let high : n ≤ max_jobs = parts.1 in
    let here = row_lines n row in
    let later = numbered_lines ns rows in
    let all = length-append here later in
    let g = state_between_rows earlier done e in
    let C : List (List ℕ) → Type 0 = λ ls. Covers earlier done (n ∷ ns) (row ∷ rows) (suc k)
    (with_last_row_finished (says (joined ls ++ w) g)) in
    elim (cases_lt (suc k) (length here)) [
      | inl inside ↦
          subst C (sym (take-append-le (suc k) here later (omega arith)))
          (one_covered earlier done n ns row rows (suc k) (with_last_row_finished (says (joined (take (suc k) here) ++ w) g))
          (omega arith) (row_begun (suc k) n row w earlier done e each.0 (omega arith) (omega arith) (omega arith) inside))
      | inr past ↦
          let i = suc k - length here in
          let is : suc k ≡ length here + i = omega arith in
          let longer = length-append done (row ∷ []) in
          let next = state_between_rows (earlier ++ n ∷ []) (done ++ row ∷ []) e in
          let rest = rows_covered i ns rows w (earlier ++ n ∷ []) (done ++ row ∷ []) e n each.1 (omega arith) parts.2
          (omega arith) (omega arith) in
          subst C (sym (take_past here later (suc k) i is))
          (more_covered earlier done n ns row rows (suc k) i
          (with_last_row_finished (says (joined (here ++ take i later) ++ w) g)) is
          (subst (λ (f : ReaderStateView). Covers (earlier ++ n ∷ []) (done ++ row ∷ []) ns rows i (with_last_row_finished f))
          (sym (whole_row_says n row (take i later) w earlier done e each.0 (omega arith) (omega arith) (omega arith))) rest))
    ]
