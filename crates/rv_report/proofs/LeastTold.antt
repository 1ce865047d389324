-- What is told is the first line that no report has.
use Rattle.std.proofs.Common.{◌≡◌, ◌∙◌, ◌==◌, ◌+◌, ◌-◌, ◌<◌, ◌≤◌, ℕ, zero, suc, Bool, true, false, ◌&&◌, not, cond, List, []}
use Rattle.std.proofs.Common.{◌∷◌, ◌++◌, refl, sym, ap, arith, subst, append_assoc, inl, inr}
use Rattle.std.proofs.lemmas.Bool.{and_from, cases_Bool, cases_lt, false≢true}
use Rattle.rv_report.specs.declared.read.FirstWordState.{FirstWordState}
use Rattle.rv_report.specs.declared.read.FirstWordState.TheVariants as word
use Rattle.rv_report.specs.declared.read.ReadError.{ReadError}
use Rattle.rv_report.specs.declared.read.ReadError.TheVariants.{OutOfMemory, Line, Truncated}
use Rattle.rv_report.specs.declared.saved.SavedReport.{SavedReport}
use Rattle.rv_report.specs.LenientReport.{lenient_report}
use Rattle.rv_report.specs.Saved.{IsValidReport, saved_text}
use Rattle.rv_report.specs.Differences.{line_feed_count, word_after_byte, can_begin_report_line, line_after_byte, read_error_from, read_error_at, AgreeBeforeError}
use Rattle.rv_report.specs.FirstInvalidLine.{first_lines, IsReportPrefix, IsFirstError}
use Rattle.rv_report.proofs.Pieces.{lacks}
use Rattle.rv_report.proofs.Cut.{said_can_be}
use Rattle.rv_report.proofs.CutReport.{lines_cut}
use Rattle.rv_report.proofs.Told.{tells}
use Rattle.rv_report.proofs.LineLists.{joined}
use Rattle.rv_report.proofs.FirstInvalidLine.{split_lines, lines_stay, feeds_of, past_feed, past_byte}

-- ---- no line before the first difference is told

is_line : ReadError → Bool
is_line OutOfMemory = false
is_line (Line line) = true
is_line Truncated = false

line_of : ReadError → ℕ
line_of OutOfMemory = zero
line_of (Line line) = line
line_of Truncated = zero

cut_is_no_line : (told : ℕ) → Truncated ≡ Line told → ⊥
unfolding is_line
cut_is_no_line told e = let f : false ≡ true = ap is_line e in false≢true f

same_told : (line told : ℕ) → Line line ≡ Line told → line ≡ told
unfolding line_of
same_told line told e = ap line_of e

not_earlier_at : (line : ℕ) (met : FirstWordState) (other : ℕ) (rest : List ℕ) (told : ℕ)
    → read_error_at line met other rest ≡ Line told → line ≡ told
not_earlier_at line met other rest told e =
    let cut : Bool = can_begin_report_line met other rest && (line_feed_count rest == 0) in
    elim (cases_Bool cut) [
      | inl z ↦ absurd (cut_is_no_line told (sym (ap (λ (s : Bool). cond s Truncated (Line line)) z) ∙ e))
      | inr z ↦ same_told line told (sym (ap (λ (s : Bool). cond s Truncated (Line line)) z) ∙ e)
    ]

line_grows : (line b : ℕ) → line ≤ line_after_byte line b
line_grows line b =
    elim (cases_Bool (b == 10)) [
      | inl e ↦ let s : line_after_byte line b ≡ line + 1 = ap (λ (t : Bool). cond t (line + 1) line) e in omega arith
      | inr e ↦ let s : line_after_byte line b ≡ line = ap (λ (t : Bool). cond t (line + 1) line) e in omega arith
    ]

not_earlier : (text bytes : List ℕ) (line : ℕ) (met : FirstWordState) (told : ℕ)
    → read_error_from line met text bytes ≡ Line told → line ≤ told
unfolding read_error_from
not_earlier [] [] line met told e = absurd (cut_is_no_line told e)
not_earlier (x ∷ ts) [] line met told e = absurd (cut_is_no_line told e)
not_earlier [] (y ∷ bs) line met told e = let s = same_told line told e in omega arith
not_earlier (x ∷ ts) (y ∷ bs) line met told e =
    let next : ReadError = read_error_from (line_after_byte line y) (word_after_byte met y) ts bs in
    let here = read_error_at line met x (y ∷ bs) in
    elim (cases_Bool (y == x)) [
      | inl same ↦
          let later = not_earlier ts bs (line_after_byte line y) (word_after_byte met y) told
          (sym (ap (λ (s : Bool). cond s next here) same) ∙ e) in
          let grows = line_grows line y in
          omega arith
      | inr other ↦
          let s = not_earlier_at line met x (y ∷ bs) told (sym (ap (λ (s : Bool). cond s next here) other) ∙ e) in
          omega arith
    ]

same_byte : (b : ℕ) → (b == b) ≡ true
same_byte b = grind arith

line_and_feeds : (line b : ℕ) (u : List ℕ) → line_after_byte line b + line_feed_count u ≡ line + line_feed_count (b ∷ u)
line_and_feeds line b u =
    elim (cases_Bool (b == 10)) [
      | inl e ↦
          let s : line_after_byte line b ≡ line + 1 = ap (λ (t : Bool). cond t (line + 1) line) e in
          let f : line_feed_count (b ∷ u) ≡ line_feed_count u + 1 = feeds_of b u true e in
          omega arith
      | inr e ↦
          let s : line_after_byte line b ≡ line = ap (λ (t : Bool). cond t (line + 1) line) e in
          let f : line_feed_count (b ∷ u) ≡ line_feed_count u = feeds_of b u false e in
          omega arith
    ]

-- what two texts begin with has no line that is told
told_behind : (u z w : List ℕ) (line : ℕ) (met : FirstWordState) (told : ℕ)
    → read_error_from line met (u ++ z) (u ++ w) ≡ Line told → line + line_feed_count u ≤ told
unfolding read_error_from
told_behind [] z w line met told e = let s = not_earlier z w line met told e in omega arith
told_behind (b ∷ u) z w line met told e =
    let next : ReadError = read_error_from (line_after_byte line b) (word_after_byte met b) (u ++ z) (u ++ w) in
    let here = read_error_at line met b (b ∷ (u ++ w)) in
    let later = told_behind u z w (line_after_byte line b) (word_after_byte met b) told
    (sym (ap (λ (s : Bool). cond s next here) (same_byte b)) ∙ e) in
    let n = line_and_feeds line b u in
    omega arith

-- ---- the line itself

pub invalid_line : (bytes : List ℕ) (told : ℕ)
    → read_error_from 1 word.NotStarted (saved_text (lenient_report bytes)) bytes ≡ Line told
    → told ≤ line_feed_count bytes → IsReportPrefix (first_lines told bytes) → ⊥
invalid_line bytes told e within begins =
    let stay = lines_stay bytes told within begins in
    let s = split_lines bytes told within in
    let u = first_lines told bytes in
    let whole : bytes ≡ u ++ s.rest = s.all ∙ ap (λ (t : List ℕ). t ++ s.rest) (sym s.first) in
    let feeds : line_feed_count u ≡ told = ap line_feed_count s.first ∙ s.feeds in
    let moved : read_error_from 1 word.NotStarted (u ++ stay.0) (u ++ s.rest) ≡ Line told =
    sym (ap (λ (t : List ℕ). read_error_from 1 word.NotStarted t bytes) stay.1
    ∙ ap (λ (t : List ℕ). read_error_from 1 word.NotStarted (u ++ stay.0) t) whole) ∙ e in
    let behind = told_behind u stay.0 s.rest 1 word.NotStarted told moved in
    absurd (omega arith)

-- ---- the lines before

first_none : (bytes : List ℕ) → first_lines zero bytes ≡ []
unfolding first_lines
first_none [] = refl
first_none (b ∷ bs) = refl

-- the first lines of a text are those of its beginning that has as many
first_in : (common more : List ℕ) (c : ℕ) → c ≤ line_feed_count common
    → first_lines c (common ++ more) ≡ first_lines c common
first_in [] more zero h = first_none more ∙ sym (first_none [])
first_in [] more (suc c) h = absurd (omega arith)
first_in (b ∷ bs) more zero h = first_none (b ∷ (bs ++ more)) ∙ sym (first_none (b ∷ bs))
first_in (b ∷ bs) more (suc c) h =
    elim (cases_Bool (b == 10)) [
      | inl e ↦
          let f : line_feed_count (b ∷ bs) ≡ line_feed_count bs + 1 = feeds_of b bs true e in
          past_feed b c (bs ++ more) e ∙ ap (λ (t : List ℕ). b ∷ t) (first_in bs more c (omega arith))
          ∙ sym (past_feed b c bs e)
      | inr e ↦
          let f : line_feed_count (b ∷ bs) ≡ line_feed_count bs = feeds_of b bs false e in
          past_byte b c (bs ++ more) e ∙ ap (λ (t : List ℕ). b ∷ t) (first_in bs more (suc c) (omega arith))
          ∙ sym (past_byte b c bs e)
    ]

feeds_append : (xs ys : List ℕ) → line_feed_count (xs ++ ys) ≡ line_feed_count xs + line_feed_count ys
feeds_append [] ys = omega arith
feeds_append (x ∷ xs) ys =
    let later = feeds_append xs ys in
    elim (cases_Bool (x == 10)) [
      | inl e ↦
          let f : line_feed_count (x ∷ (xs ++ ys)) ≡ line_feed_count (xs ++ ys) + 1 = feeds_of x (xs ++ ys) true e in
          let g : line_feed_count (x ∷ xs) ≡ line_feed_count xs + 1 = feeds_of x xs true e in
          omega arith
      | inr e ↦
          let f : line_feed_count (x ∷ (xs ++ ys)) ≡ line_feed_count (xs ++ ys) = feeds_of x (xs ++ ys) false e in
          let g : line_feed_count (x ∷ xs) ≡ line_feed_count xs = feeds_of x xs false e in
          omega arith
    ]

-- the lines that a text has in common with a report's begin a report
begun_before : (r : SavedReport) → IsValidReport r → (bytes common more other : List ℕ) (c : ℕ) → bytes ≡ common ++ more
    → saved_text r ≡ common ++ other → c ≤ line_feed_count common → IsReportPrefix (first_lines c bytes)
begun_before r h bytes common more other c b t within =
    let s = split_lines common c within in
    let first : first_lines c bytes ≡ joined s.ls = ap (λ (x : List ℕ). first_lines c x) b ∙ first_in common more c within ∙ s.first in (
      r,
      s.rest ++ other,
      h,
      t ∙ ap (λ (x : List ℕ). x ++ other) s.all ∙ append_assoc (joined s.ls) s.rest other
          ∙ ap (λ (x : List ℕ). x ++ (s.rest ++ other)) (sym first),
    )

-- ---- a beginning of a report

no_feed_lacks : (bs : List ℕ) → line_feed_count bs ≡ 0 → lacks 10 bs ≡ true
no_feed_lacks [] h = refl
no_feed_lacks (b ∷ bs) h =
    elim (cases_Bool (b == 10)) [
      | inl e ↦
          let f : line_feed_count (b ∷ bs) ≡ line_feed_count bs + 1 = feeds_of b bs true e in
          absurd (omega arith)
      | inr e ↦
          let f : line_feed_count (b ∷ bs) ≡ line_feed_count bs = feeds_of b bs false e in
          and_from (not (b == 10)) (lacks 10 bs) (ap not e) (no_feed_lacks bs (omega arith))
    ]

-- more lines than there are are all
all_lines : (bytes : List ℕ) (c : ℕ) → line_feed_count bytes < c → first_lines c bytes ≡ bytes
unfolding first_lines
all_lines [] c h = refl
all_lines (b ∷ bs) zero h = absurd (omega arith)
all_lines (b ∷ bs) (suc c) h =
    elim (cases_Bool (b == 10)) [
      | inl e ↦
          let f : line_feed_count (b ∷ bs) ≡ line_feed_count bs + 1 = feeds_of b bs true e in
          past_feed b c bs e ∙ ap (λ (t : List ℕ). b ∷ t) (all_lines bs c (omega arith))
      | inr e ↦
          let f : line_feed_count (b ∷ bs) ≡ line_feed_count bs = feeds_of b bs false e in
          past_byte b c bs e ∙ ap (λ (t : List ℕ). b ∷ t) (all_lines bs (suc c) (omega arith))
    ]

-- it is cut off
pub begun_is_cut : (bytes : List ℕ) → IsReportPrefix bytes
    → read_error_from 1 word.NotStarted (saved_text (lenient_report bytes)) bytes ≡ Truncated
begun_is_cut bytes begins =
    let s = split_lines bytes (line_feed_count bytes) (omega arith) in
    let feeds = s.feeds in
    let both : line_feed_count bytes ≡ line_feed_count (joined s.ls) + line_feed_count s.rest =
    ap line_feed_count s.all ∙ feeds_append (joined s.ls) s.rest in
    let plain = no_feed_lacks s.rest (omega arith) in
    let cut = lines_cut begins.0 begins.2 s.ls s.rest begins.1 s.are_lines plain
    (begins.3 ∙ ap (λ (t : List ℕ). t ++ begins.1) s.all ∙ append_assoc (joined s.ls) s.rest begins.1) in
    subst (λ (t : List ℕ). read_error_from 1 word.NotStarted (saved_text (lenient_report t)) t ≡ Truncated) (sym s.all) cut

-- no report begins with the lines up to the one that is told
none_begins : (bytes : List ℕ) (told : ℕ)
    → read_error_from 1 word.NotStarted (saved_text (lenient_report bytes)) bytes ≡ Line told
    → IsReportPrefix (first_lines told bytes) → ⊥
none_begins bytes told e begins =
    elim (cases_lt (line_feed_count bytes) told) [
      | inl past ↦
          let all = subst (λ (t : List ℕ). IsReportPrefix t) (all_lines bytes told past) begins in
          cut_is_no_line told (sym (begun_is_cut bytes all) ∙ e)
      | inr within ↦ invalid_line bytes told e within begins
    ]

-- ---- both

least_of : (bytes : List ℕ) (e : ReadError) → e ≡ read_error_from 1 word.NotStarted (saved_text (lenient_report bytes)) bytes
    → AgreeBeforeError e (saved_text (lenient_report bytes)) bytes → IsFirstError e bytes
least_of bytes OutOfMemory is alike = tt
least_of bytes (Line told) is alike =
    let counted = alike.5 in
    record {
      before = begun_before (lenient_report bytes) (said_can_be bytes) bytes alike.0 alike.1 alike.2 (told - 1) alike.3 alike.4
          (omega arith);
      refused = none_begins bytes told (sym is);
    }
least_of bytes Truncated is alike =
    let none = alike.5 in
    let n = feeds_append alike.0 alike.1 in
    let same : line_feed_count bytes ≡ line_feed_count (alike.0 ++ alike.1) = ap line_feed_count alike.3 in
    begun_before (lenient_report bytes) (said_can_be bytes) bytes alike.0 alike.1 alike.2 (line_feed_count bytes) alike.3 alike.4
    (omega arith)

-- what is told is the least
pub told_is_least : (bytes : List ℕ) (e : ReadError)
    → e ≡ read_error_from 1 word.NotStarted (saved_text (lenient_report bytes)) bytes → IsFirstError e bytes
told_is_least bytes e is =
    least_of bytes e is (subst (λ (x : ReadError). AgreeBeforeError x (saved_text (lenient_report bytes)) bytes) (sym is)
    (tells (saved_text (lenient_report bytes)) bytes))
