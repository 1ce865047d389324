-- Where the bytes end in a line of some row, what is said goes on with a line that is alike, or the
-- bytes end in a row's first line.
use Rattle.std.proofs.Common.{◌≡◌, ◌∙◌, ◌+◌, ◌-◌, ◌<◌, ◌≤◌, ◌^◌, ℕ, zero, suc, true, List, [], ◌∷◌, ◌++◌, length}
use Rattle.std.proofs.Common.{take, get_or, map, Option, Some, None, refl, sym, ap, arith, subst, append-nil, length-append, inl, inr}
use Rattle.std.specs.Prelude.{◌⊎◌}
use Rattle.std.specs.List.{AllByRecursion}
use Rattle.std.proofs.lemmas.Bool.{cases_lt}
use Rattle.std.proofs.lemmas.List.{take-append-le, take-map, length-map}
use Rattle.rv_text.specs.Numbers.{word_digits}
use Rattle.rv_base.specs.Limits.{max_jobs}
use Rattle.rv_report.specs.declared.row.Row.{Row}
use Rattle.rv_report.specs.declared.saved.Extent.{Extent}
use Rattle.rv_report.specs.declared.lenient_rows.Stage.TheVariants as stage
use Rattle.rv_report.specs.LenientReport.{ReaderStateView, state_between_rows, with_last_row_finished}
use Rattle.rv_report.specs.Saved.{IsValidRow, IsWord, IsValidSignature, are_increasing}
use Rattle.rv_report.proofs.Pieces.{lacks}
use Rattle.rv_report.proofs.Spelled.{says, end_words}
use Rattle.rv_report.proofs.Reports.{rising_parts}
use Rattle.rv_report.proofs.LineLists.{joined}
use Rattle.rv_report.proofs.RecordedRow.{HasRow, with_less}
use Rattle.rv_report.proofs.RowLines.{job_words, steps_change_text, console_change_text, count_words, verdict_change_text, lines_of_signature, row_lines, numbered_lines}
use Rattle.rv_report.proofs.PartialRow.{Agrees, partial_row}
use Rattle.rv_report.proofs.CollectedRows.{Covers, none_covered, one_covered, more_covered, take_past, whole_row_says, between_grown}
use Rattle.rv_report.proofs.CutText.{AlikeLine}
use Rattle.rv_report.proofs.NextRow.{NextAgrees, next_one, next_two, next_three, next_four, next_verdict, next_word}

-- ---- elements of lists

pub get_in : {X : Type 0} (xs ys : List X) (k : ℕ) (d : X) → k < length xs → get_or (xs ++ ys) k d ≡ get_or xs k d
get_in [] ys k d h = absurd (omega arith)
get_in (x ∷ xs) ys zero d h = refl
get_in (x ∷ xs) ys (suc k) d h = get_in xs ys k d (omega arith)

pub get_past : {X : Type 0} (xs ys : List X) (k i : ℕ) (d : X) → k ≡ length xs + i → get_or (xs ++ ys) k d ≡ get_or ys i d
get_past [] ys k i d h = ap (λ (n : ℕ). get_or ys n d) (let e : k ≡ i = omega arith in e)
get_past (x ∷ xs) ys zero i d h = absurd (omega arith)
get_past (x ∷ xs) ys (suc k) i d h = get_past xs ys k i d (omega arith)

get_map : (ws : List ℕ) (i : ℕ) → i < length ws → get_or (map word_digits ws) i [] ≡ word_digits (get_or ws i 0)
get_map [] i h = absurd (omega arith)
get_map (w ∷ ws) zero h = refl
get_map (w ∷ ws) (suc i) h = get_map ws i (omega arith)

word_at : (ws : List ℕ) (i : ℕ) → AllByRecursion IsWord ws → i < length ws → IsWord (get_or ws i 0)
word_at [] i h within = absurd (omega arith)
word_at (w ∷ ws) zero h within = h.0
word_at (w ∷ ws) (suc i) h within = word_at ws i h.1 (omega arith)

-- ---- a row

-- the row is said with the known lines, and goes on alike
abbrev ContinuesIn : ℕ → Row → List (List ℕ) → List ℕ → ReaderStateView → Type 0
ContinuesIn n row ls p g = HasRow g.numbers g.rows n (NextAgrees n row ls p)
    (with_last_row_finished (says (joined ls ++ p) (record g { stage = stage.BetweenRows })))

abbrev with_head : ℕ → Row → List (List ℕ) → List (List ℕ)
with_head n row ls = job_words n row.name ∷ end_words row.ending ∷ steps_change_text row.steps ∷ console_change_text row.console ∷ ls

-- in the signature's words or the verdict
last_goes_on : (s : Option (List ℕ)) (i n : ℕ) (row : Row) (b : ℕ) (p q : List ℕ) (g : ReaderStateView) → row.signature ≡ s → IsValidRow row
    → n < 2 ^ 32 → length g.rows < max_jobs → lacks 10 (b ∷ p) ≡ true
    → suc i < length (lines_of_signature s ++ verdict_change_text row.verdict ∷ [])
    → get_or (lines_of_signature s ++ verdict_change_text row.verdict ∷ []) (suc i) [] ≡ (b ∷ p) ++ q
    → ContinuesIn n row (with_head n row (take (suc i) (lines_of_signature s ++ verdict_change_text row.verdict ∷ []))) (b ∷ p) g
last_goes_on None zero n row b p q g has_signature is small few plain within begins =
    subst (λ (s : Option (List ℕ)). ContinuesIn n row (with_head n row (lines_of_signature s)) (b ∷ p) g) has_signature
    (next_verdict n row b p q g is small few plain begins)
last_goes_on None (suc i) n row b p q g has_signature is small few plain within begins = absurd (omega arith)
last_goes_on (Some ws) i n row b p q g has_signature is small few plain within begins =
    let v = verdict_change_text row.verdict in
    let digits = map word_digits ws in
    let count = count_words (length ws) in
    let words : IsValidSignature (Some ws) = subst (λ (s : Option (List ℕ)). IsValidSignature s) has_signature is.signature in
    let a = length-append digits (v ∷ []) in
    let l : length digits ≡ length ws = length-map ws word_digits in
    elim (cases_lt i (length ws)) [
      | inl inside ↦
          let taken : map word_digits (take i ws) ≡ take i (digits ++ v ∷ []) =
          sym (take-append-le i digits (v ∷ []) (omega arith) ∙ take-map word_digits i ws) in
          let element : word_digits (get_or ws i 0) ≡ (b ∷ p) ++ q =
          sym (get_map ws i inside) ∙ sym (get_in digits (v ∷ []) i [] (omega arith)) ∙ begins in
          subst (λ (ls : List (List ℕ)). ContinuesIn n row (with_head n row (count ∷ ls)) (b ∷ p) g) taken
          (next_word n row ws i b p q g is small few plain has_signature inside (word_at ws i words.1 inside) element)
      | inr past ↦
          let e : i ≡ length digits + zero = omega arith in
          let taken : digits ≡ take i (digits ++ v ∷ []) =
          sym (take_past digits (v ∷ []) i zero e ∙ append-nil digits) in
          let element : v ≡ (b ∷ p) ++ q = sym (get_past digits (v ∷ []) i zero [] e) ∙ begins in
          subst (λ (ls : List (List ℕ)). ContinuesIn n row (with_head n row (count ∷ ls)) (b ∷ p) g) taken
          (subst (λ (s : Option (List ℕ)). ContinuesIn n row (with_head n row (lines_of_signature s)) (b ∷ p) g) has_signature
          (next_verdict n row b p q g is small few plain element))
    ]

row_goes_on : (k n : ℕ) (row : Row) (b : ℕ) (p q : List ℕ) (g : ReaderStateView) → IsValidRow row → n < 2 ^ 32 → length g.rows < max_jobs
    → length g.words ≤ g.count → lacks 10 (b ∷ p) ≡ true → 0 < k → k < length (row_lines n row)
    → get_or (row_lines n row) k [] ≡ (b ∷ p) ++ q → ContinuesIn n row (take k (row_lines n row)) (b ∷ p) g
row_goes_on zero n row b p q g is small few room plain some within begins = absurd (omega arith)
row_goes_on (suc zero) n row b p q g is small few room plain some within begins =
    let k : ℕ = suc zero in
    let ls = take k (row_lines n row) in
    with_less g.numbers g.rows n (Agrees n row k) (NextAgrees n row ls (b ∷ p))
    (with_last_row_finished (says (joined ls ++ b ∷ p) (record g { stage = stage.BetweenRows })))
    (partial_row (suc zero) n row (b ∷ p) g is small few room some within) (next_one n row (b ∷ p) q begins)
row_goes_on (suc (suc zero)) n row b p q g is small few room plain some within begins =
    let k : ℕ = suc (suc zero) in
    let ls = take k (row_lines n row) in
    with_less g.numbers g.rows n (Agrees n row k) (NextAgrees n row ls (b ∷ p))
    (with_last_row_finished (says (joined ls ++ b ∷ p) (record g { stage = stage.BetweenRows })))
    (partial_row (suc (suc zero)) n row (b ∷ p) g is small few room some within) (next_two n row (b ∷ p) q begins)
row_goes_on (suc (suc (suc zero))) n row b p q g is small few room plain some within begins =
    let k : ℕ = suc (suc (suc zero)) in
    let ls = take k (row_lines n row) in
    with_less g.numbers g.rows n (Agrees n row k) (NextAgrees n row ls (b ∷ p))
    (with_last_row_finished (says (joined ls ++ b ∷ p) (record g { stage = stage.BetweenRows })))
    (partial_row (suc (suc (suc zero))) n row (b ∷ p) g is small few room some within) (next_three n row (b ∷ p) q begins)
row_goes_on (suc (suc (suc (suc zero)))) n row b p q g is small few room plain some within begins =
    let k : ℕ = suc (suc (suc (suc zero))) in
    let ls = take k (row_lines n row) in
    with_less g.numbers g.rows n (Agrees n row k) (NextAgrees n row ls (b ∷ p))
    (with_last_row_finished (says (joined ls ++ b ∷ p) (record g { stage = stage.BetweenRows })))
    (partial_row (suc (suc (suc (suc zero)))) n row (b ∷ p) g is small few room some within)
    (next_four n row (b ∷ p) q begins)
row_goes_on (suc (suc (suc (suc (suc i))))) n row b p q g is small few room plain some within begins =
    last_goes_on row.signature i n row b p q g refl is small few plain (omega arith) begins

-- ---- rows

-- what is said goes on with a line that is alike; or with the next row, and the bytes end in a
-- row's first line
abbrev pub Onward : List ℕ → List (List ℕ) → Type 0
Onward p more = ((next : List ℕ) × (rest : List (List ℕ)) × (more ≡ next ∷ rest) × AlikeLine p next)
    ⊎ ((n : ℕ) × (name q : List ℕ) × (job_words n name ≡ p ++ q) × (more ≡ []))

pub record NextCovers (earlier : List ℕ) (done : List Row) (ns : List ℕ) (rows : List Row) (k : ℕ) (p : List ℕ)
    (f : ReaderStateView) : Type 0 where
  pub covers : Covers earlier done ns rows k f
  pub onward : Onward p covers.more

one_next : (earlier : List ℕ) (done : List Row) (n : ℕ) (ns : List ℕ) (row : Row) (rows : List Row) (k : ℕ) (p : List ℕ)
    (f : ReaderStateView) → k ≤ length (row_lines n row) → HasRow earlier done n (NextAgrees n row (take k (row_lines n row)) p) f
    → NextCovers earlier done (n ∷ ns) (row ∷ rows) k p f
unfolding one_covered
one_next earlier done n ns row rows k p f few h =
    let has : HasRow earlier done n (Agrees n row k) f = record {
      row = h.row;
      more_numbers = h.more_numbers;
      more_rows = h.more_rows;
      numbers_are = h.numbers_are;
      rows_are = h.rows_are;
      knows = record { name = h.knows.name; more = h.knows.next ∷ h.knows.more; lines = h.knows.lines };
    } in
    record {
      covers = one_covered earlier done n ns row rows k f few has;
      onward = inl (h.knows.next, h.knows.more, refl, h.knows.alike);
    }

more_next : (earlier : List ℕ) (done : List Row) (n : ℕ) (ns : List ℕ) (row : Row) (rows : List Row) (k i : ℕ) (p : List ℕ)
    (f : ReaderStateView) → k ≡ length (row_lines n row) + i
    → NextCovers (earlier ++ n ∷ []) (done ++ row ∷ []) ns rows i p f
    → NextCovers earlier done (n ∷ ns) (row ∷ rows) k p f
unfolding more_covered
more_next earlier done n ns row rows k i p f is h = record {
  covers = more_covered earlier done n ns row rows k i f is h.covers;
  onward = h.onward;
}

first_next : (earlier : List ℕ) (done : List Row) (n : ℕ) (ns : List ℕ) (row : Row) (rows : List Row) (b : ℕ) (p q : List ℕ)
    (e : Extent) → job_words n row.name ≡ (b ∷ p) ++ q
    → NextCovers earlier done (n ∷ ns) (row ∷ rows) zero (b ∷ p)
    (with_last_row_finished (says (b ∷ p) (state_between_rows earlier done e)))
unfolding none_covered
first_next earlier done n ns row rows b p q e is = record {
  covers = none_covered earlier done (n ∷ ns) (row ∷ rows)
      (with_last_row_finished (says (b ∷ p) (state_between_rows earlier done e)))
      (between_grown (b ∷ p) earlier done e);
  onward = inr (n, row.name, q, is, refl);
}

row_next : (k n : ℕ) (row : Row) (b : ℕ) (p q earlier : List ℕ) (done : List Row) (e : Extent) → IsValidRow row → n < 2 ^ 32
    → length done < max_jobs → lacks 10 (b ∷ p) ≡ true → 0 < k → k < length (row_lines n row)
    → get_or (row_lines n row) k [] ≡ (b ∷ p) ++ q
    → HasRow earlier done n (NextAgrees n row (take k (row_lines n row)) (b ∷ p))
    (with_last_row_finished (says (joined (take k (row_lines n row)) ++ b ∷ p) (state_between_rows earlier done e)))
unfolding state_between_rows
row_next k n row b p q earlier done e is small few plain some within begins =
    row_goes_on k n row b p q (state_between_rows earlier done e) is small few (omega arith) plain some within begins

pub rows_next : (k : ℕ) (ns : List ℕ) (rows : List Row) (b : ℕ) (p q earlier : List ℕ) (done : List Row) (e : Extent) (before : ℕ)
    → AllByRecursion IsValidRow rows → length ns ≡ length rows → are_increasing before max_jobs ns ≡ true
    → length done + length rows ≤ max_jobs → lacks 10 (b ∷ p) ≡ true → k < length (numbered_lines ns rows)
    → get_or (numbered_lines ns rows) k [] ≡ (b ∷ p) ++ q
    → NextCovers earlier done ns rows k (b ∷ p)
    (with_last_row_finished (says (joined (take k (numbered_lines ns rows)) ++ b ∷ p) (state_between_rows earlier done e)))
rows_next k [] [] b p q earlier done e before each counted rising few plain within begins = absurd (omega arith)
rows_next k [] (row ∷ rows) b p q earlier done e before each counted rising few plain within begins = absurd (omega arith)
rows_next k (n ∷ ns) [] b p q earlier done e before each counted rising few plain within begins = absurd (omega arith)
rows_next zero (n ∷ ns) (row ∷ rows) b p q earlier done e before each counted rising few plain within begins =
    first_next earlier done n ns row rows b p q e begins
rows_next (suc k) (n ∷ ns) (row ∷ rows) b p q earlier done e before each counted rising few plain within begins =
    let parts = rising_parts before max_jobs n ns rising in
    let low : before < n = parts.0 in
    let high : n ≤ max_jobs = parts.1 in
    let here = row_lines n row in
    let later = numbered_lines ns rows in
    let all = length-append here later in
    let g = state_between_rows earlier done e in
    let C : List (List ℕ) → Type 0 = λ ls. NextCovers earlier done (n ∷ ns) (row ∷ rows) (suc k) (b ∷ p)
    (with_last_row_finished (says (joined ls ++ b ∷ p) g)) in
    elim (cases_lt (suc k) (length here)) [
      | inl inside ↦
          subst C (sym (take-append-le (suc k) here later (omega arith)))
          (one_next earlier done n ns row rows (suc k) (b ∷ p)
          (with_last_row_finished (says (joined (take (suc k) here) ++ b ∷ p) g)) (omega arith)
          (row_next (suc k) n row b p q earlier done e each.0 (omega arith) (omega arith) plain (omega arith) inside
          (sym (get_in here later (suc k) [] inside) ∙ begins)))
      | inr past ↦
          let i = suc k - length here in
          let is : suc k ≡ length here + i = omega arith in
          let longer = length-append done (row ∷ []) in
          let rest = rows_next i ns rows b p q (earlier ++ n ∷ []) (done ++ row ∷ []) e n each.1 (omega arith) parts.2
          (omega arith) plain (omega arith) (sym (get_past here later (suc k) i [] is) ∙ begins) in
          subst C (sym (take_past here later (suc k) i is))
          (more_next earlier done n ns row rows (suc k) i (b ∷ p)
          (with_last_row_finished (says (joined (here ++ take i later) ++ b ∷ p) g)) is
          (subst (λ (f : ReaderStateView). NextCovers (earlier ++ n ∷ []) (done ++ row ∷ []) ns rows i (b ∷ p) (with_last_row_finished f))
          (sym (whole_row_says n row (take i later) (b ∷ p) earlier done e each.0 (omega arith) (omega arith) (omega arith))) rest))
    ]
