-- Bytes that end in a line whose first word is the text's are cut off.
use Rattle.std.proofs.Common.{◌≡◌, ◌∙◌, ◌==◌, ◌+◌, ℕ, zero, Bool, true, false, ◌&&◌, not, cond, List, []}
use Rattle.std.proofs.Common.{◌∷◌, ◌++◌, get_or, drop, refl, sym, ap, arith, subst, append_assoc, inl, inr}
use Rattle.std.specs.Prelude.{◌⊎◌}
use Rattle.std.proofs.lemmas.Bool.{and_parts, cases_Bool, not-true}
use Rattle.rv_report.specs.Report.{line}
use Rattle.rv_report.specs.declared.read.FirstWordState.{FirstWordState}
use Rattle.rv_report.specs.declared.read.FirstWordState.TheVariants as word
use Rattle.rv_report.specs.declared.read.ReadError.{ReadError}
use Rattle.rv_report.specs.declared.read.ReadError.TheVariants.{Line, Truncated}
use Rattle.rv_report.specs.Differences.{line_feed_count, word_after_byte, begins_last_line, begins_row, line_after_byte, read_error_from, read_error_at}
use Rattle.rv_report.proofs.Pieces.{lacks}
use Rattle.rv_report.proofs.LineLists.{joined}

-- bytes begin a line, or have a first word, with the space behind it, that is the line's
abbrev pub AlikeLine : List ℕ → List ℕ → Type 0
AlikeLine p y = ((q : List ℕ) × (y ≡ p ++ q)) ⊎ ((d a b : List ℕ) × (p ≡ d ++ 32 ∷ a) × (y ≡ d ++ 32 ∷ b))

same_byte : (b : ℕ) → (b == b) ≡ true
same_byte b = grind arith

no_feeds : (bs : List ℕ) → lacks 10 bs ≡ true → line_feed_count bs ≡ zero
no_feeds [] h = refl
no_feeds (b ∷ bs) h =
    let parts = and_parts (not (b == 10)) (lacks 10 bs) h in
    ap (λ (t : Bool). cond t (line_feed_count bs + 1) (line_feed_count bs)) (not-true (b == 10) parts.0)
    ∙ no_feeds bs parts.1

pub lacks_behind : (xs ys : List ℕ) → lacks 10 (xs ++ ys) ≡ true → lacks 10 ys ≡ true
lacks_behind [] ys h = h
lacks_behind (x ∷ xs) ys h = lacks_behind xs ys (and_parts (not (x == 10)) (lacks 10 (xs ++ ys)) h).1

-- ---- the comparison

cut_at_end : (p z : List ℕ) (n : ℕ) (met : FirstWordState) → read_error_from n met (p ++ z) p ≡ Truncated
unfolding read_error_from
cut_at_end [] [] n met = refl
cut_at_end [] (x ∷ z) n met = refl
cut_at_end (b ∷ p) z n met =
    let next : ReadError = read_error_from (line_after_byte n b) (word_after_byte met b) (p ++ z) p in
    ap (λ (s : Bool). cond s next (read_error_at n met b (b ∷ p))) (same_byte b)
    ∙ cut_at_end p z (line_after_byte n b) (word_after_byte met b)

differs_behind : (n other y : ℕ) (b : List ℕ) → lacks 10 (y ∷ b) ≡ true → read_error_at n word.Ended other (y ∷ b) ≡ Truncated
differs_behind n other y b h = ap (λ (k : ℕ). cond (k == 0) Truncated (Line n)) (no_feeds (y ∷ b) h)

same_both : (s : Bool) → cond s word.Ended word.Ended ≡ word.Ended
same_both true = refl
same_both false = refl

still_ended : (y : ℕ) → (y == 10) ≡ false → word_after_byte word.Ended y ≡ word.Ended
still_ended y e = ap (λ (s : Bool). cond s word.NotStarted (cond (y == 32) word.Ended word.Ended)) e ∙ same_both (y == 32)

cut_behind : (a z b : List ℕ) (n : ℕ) → lacks 10 b ≡ true → read_error_from n word.Ended (a ++ 10 ∷ z) b ≡ Truncated
unfolding read_error_from
cut_behind [] z [] n h = refl
cut_behind [] z (y ∷ b) n h =
    let next : ReadError = read_error_from (line_after_byte n y) (word_after_byte word.Ended y) z b in
    let parts = and_parts (not (y == 10)) (lacks 10 b) h in
    ap (λ (s : Bool). cond s next (read_error_at n word.Ended 10 (y ∷ b))) (not-true (y == 10) parts.0)
    ∙ differs_behind n 10 y b h
cut_behind (x ∷ a) z [] n h = refl
cut_behind (x ∷ a) z (y ∷ b) n h =
    let next : ReadError = read_error_from (line_after_byte n y) (word_after_byte word.Ended y) (a ++ 10 ∷ z) b in
    let here = read_error_at n word.Ended x (y ∷ b) in
    let parts = and_parts (not (y == 10)) (lacks 10 b) h in
    elim (cases_Bool (y == x)) [
      | inl e ↦
          ap (λ (s : Bool). cond s next here) e
          ∙ ap (λ (m : FirstWordState). read_error_from (line_after_byte n y) m (a ++ 10 ∷ z) b)
          (still_ended y (not-true (y == 10) parts.0))
          ∙ cut_behind a z b (line_after_byte n y) parts.1
      | inr e ↦ ap (λ (s : Bool). cond s next here) e ∙ differs_behind n x y b h
    ]

cut_word : (d a b z : List ℕ) (n : ℕ) (met : FirstWordState) → lacks 10 a ≡ true
    → read_error_from n met (d ++ 32 ∷ (b ++ 10 ∷ z)) (d ++ 32 ∷ a) ≡ Truncated
unfolding read_error_from
cut_word [] a b z n met h = cut_behind b z a n h
cut_word (c ∷ d) a b z n met h =
    let next : ReadError = read_error_from (line_after_byte n c) (word_after_byte met c) (d ++ 32 ∷ (b ++ 10 ∷ z)) (d ++ 32 ∷ a) in
    ap (λ (s : Bool). cond s next (read_error_at n met c (c ∷ (d ++ 32 ∷ a)))) (same_byte c)
    ∙ cut_word d a b z (line_after_byte n c) (word_after_byte met c) h

-- a line that is alike
pub alike_cut : (p y z : List ℕ) (n : ℕ) → lacks 10 p ≡ true → AlikeLine p y
    → read_error_from n word.NotStarted (line y ++ z) p ≡ Truncated
alike_cut p y z n h (inl same) =
    ap (λ (t : List ℕ). read_error_from n word.NotStarted ((t ++ 10 ∷ []) ++ z) p) same.1
    ∙ ap (λ (t : List ℕ). read_error_from n word.NotStarted t p) (append_assoc (p ++ same.0) (10 ∷ []) z
    ∙ append_assoc p same.0 (10 ∷ z))
    ∙ cut_at_end p (same.0 ++ 10 ∷ z) n word.NotStarted
alike_cut p y z n h (inr same) =
    let d = same.0 in
    let a = same.1 in
    let b = same.2 in
    let plain : lacks 10 (32 ∷ a) ≡ true = lacks_behind d (32 ∷ a) (subst (λ (t : List ℕ). lacks 10 t ≡ true) same.3 h) in
    ap (λ (t : List ℕ). read_error_from n word.NotStarted ((t ++ 10 ∷ []) ++ z) p) same.4
    ∙ ap (λ (t : List ℕ). read_error_from n word.NotStarted ((d ++ 32 ∷ b ++ 10 ∷ []) ++ z) t) same.3
    ∙ ap (λ (t : List ℕ). read_error_from n word.NotStarted t (d ++ 32 ∷ a)) (append_assoc (d ++ 32 ∷ b) (10 ∷ []) z
    ∙ append_assoc d (32 ∷ b) (10 ∷ z))
    ∙ cut_word d a b z n word.NotStarted (lacks_behind (32 ∷ []) a plain)

-- a row where the text has its last line
pub row_cut : (p z : List ℕ) (o n : ℕ) → lacks 10 (106 ∷ p) ≡ true → (106 == o) ≡ false → begins_last_line o ≡ true
    → begins_row (106 ∷ p) ≡ true → read_error_from n word.NotStarted (o ∷ z) (106 ∷ p) ≡ Truncated
unfolding read_error_from
row_cut p z o n h other last row =
    let next : ReadError = read_error_from (line_after_byte n 106) (word_after_byte word.NotStarted 106) z p in
    ap (λ (s : Bool). cond s next (read_error_at n word.NotStarted o (106 ∷ p))) other
    ∙ ap (λ (s : Bool). cond ((s && begins_row (106 ∷ p)) && (line_feed_count (106 ∷ p) == 0)) Truncated (Line n)) last
    ∙ ap (λ (s : Bool). cond (s && (line_feed_count (106 ∷ p) == 0)) Truncated (Line n)) row
    ∙ ap (λ (k : ℕ). cond (k == 0) Truncated (Line n)) (no_feeds (106 ∷ p) h)

-- ---- lines that are the same

passed_line : (l a b : List ℕ) (n : ℕ) (met : FirstWordState)
    → (k : ℕ) × (read_error_from n met (line l ++ a) (line l ++ b) ≡ read_error_from k word.NotStarted a b)
unfolding read_error_from
passed_line [] a b n met = (n + 1, refl)
passed_line (c ∷ l) a b n met =
    let next : ReadError = read_error_from (line_after_byte n c) (word_after_byte met c) (line l ++ a) (line l ++ b) in
    let later = passed_line l a b (line_after_byte n c) (word_after_byte met c) in
    (later.0, ap (λ (s : Bool). cond s next (read_error_at n met c (c ∷ (line l ++ b)))) (same_byte c) ∙ later.1)

pub passed_lines : (ls : List (List ℕ)) (a b : List ℕ) (n : ℕ)
    → (k : ℕ) × (read_error_from n word.NotStarted (joined ls ++ a) (joined ls ++ b) ≡ read_error_from k word.NotStarted a b)
passed_lines [] a b n = (n, refl)
passed_lines (l ∷ ls) a b n =
    let first = passed_line l (joined ls ++ a) (joined ls ++ b) n word.NotStarted in
    let later = passed_lines ls a b first.0 in (
      later.0,
      ap (λ (t : List ℕ). read_error_from n word.NotStarted t ((line l ++ joined ls) ++ b)) (append_assoc (line l) (joined ls) a)
          ∙ ap (λ (t : List ℕ). read_error_from n word.NotStarted (line l ++ (joined ls ++ a)) t) (append_assoc (line l) (joined ls) b)
          ∙ first.1 ∙ later.1,
    )

-- ---- first words

word_split : (d a p q : List ℕ) → d ++ 32 ∷ a ≡ p ++ q
    → ((e : List ℕ) × (d ≡ p ++ e)) ⊎ ((e : List ℕ) × (p ≡ d ++ 32 ∷ e))
word_split d a [] q h = inl (d, refl)
word_split [] a (c ∷ p) q h =
    let first : 32 ≡ c = ap (λ (t : List ℕ). get_or t 0 0) h in
    inr (p, ap (λ (n : ℕ). n ∷ p) (sym first))
word_split (x ∷ d) a (c ∷ p) q h =
    let first : x ≡ c = ap (λ (t : List ℕ). get_or t 0 0) h in
    elim (word_split d a p q (ap (λ (t : List ℕ). drop 1 t) h)) [
      | inl s ↦ inl (s.0, ap (λ (n : ℕ). n ∷ d) first ∙ ap (λ (t : List ℕ). c ∷ t) s.1)
      | inr s ↦ inr (s.0, ap (λ (n : ℕ). n ∷ p) (sym first) ∙ ap (λ (t : List ℕ). x ∷ t) s.1)
    ]

-- a beginning of a line is alike to each with the line's first word
pub same_word : (d a b p q : List ℕ) → d ++ 32 ∷ a ≡ p ++ q → AlikeLine p (d ++ 32 ∷ b)
same_word d a b p q h =
    elim (word_split d a p q h) [
      | inl s ↦ inl (s.0 ++ 32 ∷ b, ap (λ (t : List ℕ). t ++ 32 ∷ b) s.1 ∙ append_assoc p s.0 (32 ∷ b))
      | inr s ↦ inr (d, s.0, b, s.1, refl)
    ]
