-- Steps of the loops over a text.
use Rattle.std.proofs.Common.{◌≡◌, ◌∙◌, ◌==◌, ◌+◌, ◌-◌, ◌<◌, ◌≤◌, ℕ, zero, suc, Bool, true, false, ◌&&◌, cond}
use Rattle.std.proofs.Common.{List, [], ◌∷◌, length, take, drop, get_or, refl, sym, ap, arith, ◌++◌}
use Rattle.std.proofs.Common.{append-nil, append_assoc, nat_lt, nat_le}
use Rattle.std.proofs.lemmas.List.{at_drop_more, at_drop_all, drop_more}
use Rattle.std.proofs.lemmas.Bool.Decides.{nat_tests}
use Rattle.rv_report.specs.declared.read.FirstWordState.{FirstWordState}
use Rattle.rv_report.specs.declared.read.ReadError.TheVariants.{Line, Truncated}
use Rattle.std.proofs.lemmas.Bool.{and_parts}
use Rattle.rv_report.specs.Differences.{line_feed_count, word_after_byte, line_after_byte, read_error_from, read_error_at}
use Rattle.rv_base.specs.Limits.{max_jobs}
use Rattle.rv_report.specs.Report.{row_text}
use Rattle.rv_report.specs.declared.row.Row.{Row}
use Rattle.rv_report.specs.LenientReport.{increasing_count}
use Rattle.rv_report.specs.Saved.{are_increasing, numbered_rows_text}

pub feeds_step : (xs : List ℕ) (i : ℕ) → i < length xs
    → line_feed_count (drop i xs) ≡ cond (get_or xs i 0 == 10) (line_feed_count (drop (i + 1) xs) + 1) (line_feed_count (drop (i + 1) xs))
feeds_step xs i h = at_drop_more line_feed_count xs i 0 h

pub feeds_end : (xs : List ℕ) (i : ℕ) → length xs ≤ i → line_feed_count (drop i xs) ≡ 0
feeds_end xs i h = at_drop_all line_feed_count xs i h

pub feeds_here : (xs : List ℕ) (i : ℕ) → i < length xs → get_or xs i 0 ≡ 10 → 0 < line_feed_count (drop i xs)
feeds_here xs i h is =
    let e : (get_or xs i 0 == 10) ≡ true = grind arith in
    let s = feeds_step xs i h ∙ ap (λ (t : Bool). cond t (line_feed_count (drop (i + 1) xs) + 1) (line_feed_count (drop (i + 1) xs))) e in
    omega arith

pub feeds_later : (xs : List ℕ) (i : ℕ) → i < length xs → (get_or xs i 0 ≡ 10 → ⊥)
    → line_feed_count (drop i xs) ≡ line_feed_count (drop (i + 1) xs)
feeds_later xs i h other =
    let e : (get_or xs i 0 == 10) ≡ false = grind arith in
    feeds_step xs i h ∙ ap (λ (t : Bool). cond t (line_feed_count (drop (i + 1) xs) + 1) (line_feed_count (drop (i + 1) xs))) e

-- ---- the first difference

pub difference_end : (line : ℕ) (met : FirstWordState) (text bytes : List ℕ) (i : ℕ) → length bytes ≤ i
    → read_error_from line met text (drop i bytes) ≡ Truncated
unfolding read_error_from
difference_end line met [] bytes i h = at_drop_all (read_error_from line met []) bytes i h
difference_end line met (t ∷ ts) bytes i h = at_drop_all (read_error_from line met (t ∷ ts)) bytes i h

pub difference_past : (line : ℕ) (met : FirstWordState) (text bytes : List ℕ) (i : ℕ) → length text ≤ i → i < length bytes
    → read_error_from line met (drop i text) (drop i bytes) ≡ Line line
unfolding read_error_from
difference_past line met text bytes i h k =
    at_drop_all (λ (xs : List ℕ). read_error_from line met xs (drop i bytes)) text i h
    ∙ at_drop_more (read_error_from line met []) bytes i 0 k

difference_step : (line : ℕ) (met : FirstWordState) (text bytes : List ℕ) (i : ℕ) → i < length text → i < length bytes
    → read_error_from line met (drop i text) (drop i bytes)
    ≡ cond (get_or bytes i 0 == get_or text i 0)
    (read_error_from (line_after_byte line (get_or bytes i 0)) (word_after_byte met (get_or bytes i 0)) (drop (i + 1) text)
    (drop (i + 1) bytes))
    (read_error_at line met (get_or text i 0) (get_or bytes i 0 ∷ drop (i + 1) bytes))
unfolding read_error_from
difference_step line met text bytes i h k =
    at_drop_more (λ (xs : List ℕ). read_error_from line met xs (drop i bytes)) text i 0 h
    ∙ at_drop_more (read_error_from line met (get_or text i 0 ∷ drop (i + 1) text)) bytes i 0 k

pub difference_here : (line : ℕ) (met : FirstWordState) (text bytes : List ℕ) (i : ℕ) → i < length text → i < length bytes
    → (get_or bytes i 0 ≡ get_or text i 0 → ⊥)
    → read_error_from line met (drop i text) (drop i bytes) ≡ read_error_at line met (get_or text i 0) (drop i bytes)
difference_here line met text bytes i h k other =
    let e : (get_or bytes i 0 == get_or text i 0) ≡ false = grind arith in
    difference_step line met text bytes i h k
    ∙ ap (λ (t : Bool). cond t
    (read_error_from (line_after_byte line (get_or bytes i 0)) (word_after_byte met (get_or bytes i 0)) (drop (i + 1) text)
    (drop (i + 1) bytes))
    (read_error_at line met (get_or text i 0) (get_or bytes i 0 ∷ drop (i + 1) bytes))) e
    ∙ ap (read_error_at line met (get_or text i 0)) (sym (drop_more bytes i 0 k))

pub difference_later : (line : ℕ) (met : FirstWordState) (text bytes : List ℕ) (i : ℕ) → i < length text
    → i < length bytes → get_or bytes i 0 ≡ get_or text i 0
    → read_error_from line met (drop i text) (drop i bytes)
    ≡ read_error_from (line_after_byte line (get_or bytes i 0)) (word_after_byte met (get_or bytes i 0)) (drop (i + 1) text)
    (drop (i + 1) bytes)
difference_later line met text bytes i h k same =
    let e : (get_or bytes i 0 == get_or text i 0) ≡ true = grind arith in
    difference_step line met text bytes i h k
    ∙ ap (λ (t : Bool). cond t
    (read_error_from (line_after_byte line (get_or bytes i 0)) (word_after_byte met (get_or bytes i 0)) (drop (i + 1) text)
    (drop (i + 1) bytes))
    (read_error_at line met (get_or text i 0) (get_or bytes i 0 ∷ drop (i + 1) bytes))) e

pub line_fed : (b line : ℕ) → b ≡ 10 → line_after_byte line b ≡ line + 1
line_fed b line is = let e : (b == 10) ≡ true = grind arith in ap (λ (t : Bool). cond t (line + 1) line) e

pub line_same : (b line : ℕ) → (b ≡ 10 → ⊥) → line_after_byte line b ≡ line
line_same b line other = let e : (b == 10) ≡ false = grind arith in ap (λ (t : Bool). cond t (line + 1) line) e

-- ---- numbers of jobs

both_false : (a b : Bool) → (a ≡ true → b ≡ true → ⊥) → (a && b) ≡ false
both_false true true h = absurd (h refl refl)
both_false true false h = refl
both_false false b h = refl

count_step : (before : ℕ) (xs : List ℕ) (i : ℕ) → i < length xs → increasing_count before (drop i xs)
    ≡ cond (nat_lt before (get_or xs i 0) && nat_le (get_or xs i 0) max_jobs)
    (increasing_count (get_or xs i 0) (drop (i + 1) xs) + 1) 0
unfolding increasing_count
count_step before xs i h = at_drop_more (increasing_count before) xs i 0 h

pub count_end : (before : ℕ) (xs : List ℕ) (i : ℕ) → length xs ≤ i → increasing_count before (drop i xs) ≡ 0
unfolding increasing_count
count_end before xs i h = at_drop_all (increasing_count before) xs i h

pub count_no : (before : ℕ) (xs : List ℕ) (i : ℕ) → i < length xs
    → (before < get_or xs i 0 → get_or xs i 0 ≤ max_jobs → ⊥) → increasing_count before (drop i xs) ≡ 0
count_no before xs i h never =
    let x = get_or xs i 0 in
    count_step before xs i h
    ∙ ap (λ (t : Bool). cond t (increasing_count x (drop (i + 1) xs) + 1) 0)
    (both_false (nat_lt before x) (nat_le x max_jobs)
    (λ low high. never (grind (arith, nat_tests)) (grind (arith, nat_tests))))

pub count_on : (before : ℕ) (xs : List ℕ) (i : ℕ) → i < length xs → before < get_or xs i 0 → get_or xs i 0 ≤ max_jobs
    → increasing_count before (drop i xs) ≡ increasing_count (get_or xs i 0) (drop (i + 1) xs) + 1
count_on before xs i h low high =
    let x = get_or xs i 0 in
    let a : nat_lt before x ≡ true = grind (arith, nat_tests) in
    let b : nat_le x max_jobs ≡ true = grind (arith, nat_tests) in
    count_step before xs i h
    ∙ ap (λ (t : Bool). cond (t && nat_le x max_jobs) (increasing_count x (drop (i + 1) xs) + 1) 0) a
    ∙ ap (λ (t : Bool). cond t (increasing_count x (drop (i + 1) xs) + 1) 0) b

-- ---- rows under their numbers

-- one row more
pub numbered_more : (numbers : List ℕ) (rows : List Row) (i n place : ℕ) (row : Row) → i < length rows
    → length numbers ≡ length rows → get_or numbers i 0 ≡ n → place ≡ n - 1
    → numbered_rows_text (take (suc i) numbers) (take (suc i) rows)
    ≡ numbered_rows_text (take i numbers) (take i rows) ++ row_text place (get_or rows i row)
unfolding numbered_rows_text
numbered_more [] [] i n place row h even at is = absurd (omega arith)
numbered_more [] (r ∷ rows) i n place row h even at is = absurd (omega arith)
numbered_more (k ∷ ks) [] i n place row h even at is = absurd (omega arith)
numbered_more (k ∷ ks) (r ∷ rows) zero n place row h even at is =
    append-nil (row_text (k - 1) r) ∙ ap (λ (p : ℕ). row_text p r) (ap (λ (m : ℕ). m - 1) at ∙ sym is)
numbered_more (k ∷ ks) (r ∷ rows) (suc i) n place row h even at is =
    ap (λ (t : List ℕ). row_text (k - 1) r ++ t) (numbered_more ks rows i n place row (omega arith) (omega arith) at is)
    ∙ sym (append_assoc (row_text (k - 1) r) (numbered_rows_text (take i ks) (take i rows))
    (row_text place (get_or rows i row)))

-- the first rows, and the rest
pub numbered_split : (numbers : List ℕ) (rows : List Row) (i : ℕ) → length numbers ≡ length rows
    → numbered_rows_text numbers rows
    ≡ numbered_rows_text (take i numbers) (take i rows) ++ numbered_rows_text (drop i numbers) (drop i rows)
unfolding numbered_rows_text
numbered_split [] [] zero even = refl
numbered_split [] [] (suc i) even = refl
numbered_split [] (r ∷ rows) i even = absurd (omega arith)
numbered_split (k ∷ ks) [] i even = absurd (omega arith)
numbered_split (k ∷ ks) (r ∷ rows) zero even = refl
numbered_split (k ∷ ks) (r ∷ rows) (suc i) even =
    ap (λ (t : List ℕ). row_text (k - 1) r ++ t) (numbered_split ks rows i (omega arith))
    ∙ sym (append_assoc (row_text (k - 1) r) (numbered_rows_text (take i ks) (take i rows))
    (numbered_rows_text (drop i ks) (drop i rows)))

-- numbers that rise from behind one are above it
pub above : (before last : ℕ) (ns : List ℕ) (i : ℕ) → are_increasing before last ns ≡ true → i < length ns
    → before < get_or ns i 0
unfolding are_increasing
above before last [] i h within = absurd (omega arith)
above before last (n ∷ ns) zero h within =
    let low = (and_parts (nat_lt before n) (nat_le n last && are_increasing n last ns) h).0 in grind (arith, nat_tests)
above before last (n ∷ ns) (suc i) h within =
    let first = and_parts (nat_lt before n) (nat_le n last && are_increasing n last ns) h in
    let then = and_parts (nat_le n last) (are_increasing n last ns) first.1 in
    let low : before < n = grind (arith, nat_tests) in
    let later = above n last ns i then.1 (omega arith) in
    omega arith
