-- Texts of failures that are kept: none yet, and one row more.
use Rattle.std.proofs.Common.{◌≡◌, ◌∙◌, ◌+◌, ◌<◌, ℕ, Bool, true, false, List, [], ◌∷◌, ◌++◌, Option, Some, None, length, get_or, refl, sym, ap, subst, arith, inl, inr}
use Rattle.std.specs.Prelude.{IfSome, Vec}
use Rattle.std.specs.declared.alloc.Global.{Global}
use Rattle.std.proofs.lemmas.Bool.{cases_lt, false≢true}
use Rattle.std.proofs.lemmas.List.{get_or-map, get_or_append_left, length-append, length-map}
use Rattle.std.proofs.Math.Seq.{get_or-append_seam}
use Rattle.rv_job_text.specs.Judgement.{JudgeView, fails}
use Rattle.rv_stream.specs.declared_row.Row.{Row}
use Rattle.rv_stream.specs.SeenRows.{HasSeenRows, IsReportedRowAt}
use Rattle.rv_stream.specs.declared.reported_row.ReportedRow.{ReportedRow}
use Rattle.rv_junit.specs.KnownLines.{AreFailureTexts, AreLinesOf, IsFailureText}

abbrev IsKept : JudgeView → List (Option (Vec ℕ Global)) → List ReportedRow → ℕ → ReportedRow → Type 0
IsKept judging texts reported k any =
    IfSome (get_or texts k None) (λ text. IsFailureText judging (get_or reported k any) text.items)

-- nothing is kept
pub none_kept : (judging : JudgeView) (is_closed : Bool) (reported : List ReportedRow) → (is_closed ≡ false → 0 ≡ length reported)
    → AreFailureTexts judging is_closed [] reported
none_kept judging is_closed reported all = record { one_per_row = all; empty_if_closed = λ _. refl; at_most_reported = omega arith; each = λ k any lt. tt }

-- the text of one row more is kept, or it is not
pub one_more : (judging : JudgeView) (texts : List (Option (Vec ℕ Global))) (text : Option (Vec ℕ Global)) (reported : List ReportedRow)
    (made : ReportedRow) → IfSome text (λ text. IsFailureText judging made text.items) → AreFailureTexts judging false texts reported
    → AreFailureTexts judging false (texts ++ text ∷ []) (reported ++ made ∷ [])
one_more judging texts text reported made is are =
    let long = are.one_per_row refl in
    let more = length-append texts (text ∷ []) in
    let rows = length-append reported (made ∷ []) in record {
      one_per_row = λ _. omega (arith, long, more, rows);
      empty_if_closed = λ closed. absurd (false≢true closed);
      at_most_reported = omega (arith, long, more, rows);
      each = λ k any lt. elim (cases_lt k (length reported)) [
        | inl below ↦
            subst (λ (o : Option (Vec ℕ Global)). IfSome o (λ text. IsFailureText judging (get_or (reported ++ made ∷ []) k any) text.items))
            (sym (get_or_append_left texts (text ∷ []) None k (omega (arith, below, long))))
            (subst (λ (r : ReportedRow). IfSome (get_or texts k None) (λ text. IsFailureText judging r text.items))
            (sym (get_or_append_left reported (made ∷ []) any k below)) (are.each k any below))
        | inr past ↦
            let here : length reported ≡ k = omega (arith, past, lt, rows) in
            let there : length texts ≡ k = long ∙ here in
            subst (λ (n : ℕ). IsKept judging (texts ++ text ∷ []) (reported ++ made ∷ []) n any) here
            (subst (λ (r : ReportedRow). IfSome (get_or (texts ++ text ∷ []) (length reported) None) (λ text. IsFailureText judging r text.items))
            (sym (get_or-append_seam reported made [] any))
            (subst (λ (n : ℕ). IfSome (get_or (texts ++ text ∷ []) n None) (λ text. IsFailureText judging made text.items)) long
            (subst (λ (o : Option (Vec ℕ Global)). IfSome o (λ text. IsFailureText judging made text.items))
            (sym (get_or-append_seam texts text [] None)) is)))
      ];
    }

lines_at : (line lines : ℕ → Row → List ℕ) (judging : JudgeView) (index : ℕ) (row : Row) (reported : ReportedRow) (text : Option (Vec ℕ Global))
    → ((index : ℕ) (row : Row) → fails judging row ≡ true → line index row ≡ lines index row) → IsReportedRowAt line index reported
    → row ≡ reported.row → IfSome text (λ text. IsFailureText judging reported text.items)
    → IfSome text (λ text. text.items ≡ lines index row)
lines_at line lines judging index row reported None same report is kept = tt
lines_at line lines judging index row reported (Some text) same report is kept =
    kept.text_is ∙ report.text ∙ ap (λ (n : ℕ). line n reported.row) report.index_is ∙ same index reported.row kept.failed
    ∙ ap (λ (r : Row). lines index r) (sym is)

-- the texts of failures that were kept are the lines of their rows
lines_known : (has_seen : List ReportedRow → Type 0) (line lines : ℕ → Row → List ℕ) (judging : JudgeView) (is_closed : Bool)
    (texts : List (Option (Vec ℕ Global))) (indices : List ℕ) (rows : List Row) (seen : HasSeenRows has_seen line indices rows)
    → ((index : ℕ) (row : Row) → fails judging row ≡ true → line index row ≡ lines index row)
    → AreFailureTexts judging is_closed texts seen.reported → AreLinesOf lines indices rows texts
lines_known has_seen line lines judging is_closed texts indices rows seen same are = λ k any lt.
    let count = length-map seen.reported (λ (r : ReportedRow). r.row) in
    let long = ap length seen.same_rows in
    let low : k < length seen.reported = omega (arith, lt, count, long) in
    of seen.reported refl k any low lt
  where
    of : (reported : List ReportedRow) → reported ≡ seen.reported → (k : ℕ) (any : Row) → k < length seen.reported → k < length rows
        → IfSome (get_or texts k None) (λ text. text.items ≡ lines (get_or indices k 0) (get_or rows k any))
    of [] is k any low lt = absurd (omega (arith, low, ap length is))
    of (first ∷ reported) is k any low lt =
        lines_at line lines judging (get_or indices k 0) (get_or rows k any) (get_or seen.reported k first) (get_or texts k None) same
        (seen.each k first low)
        (ap (λ (all : List Row). get_or all k any) (sym seen.same_rows) ∙ get_or-map (λ (r : ReportedRow). r.row) seen.reported k first any low)
        (are.each k first low)

-- nothing is known
none_known : (lines : ℕ → Row → List ℕ) (indices : List ℕ) (rows : List Row) → AreLinesOf lines indices rows []
none_known lines indices rows = λ k any lt. tt

-- the kept texts are the lines of their rows, if texts are kept only while the two reporters report failures alike
pub kept_known : (has_seen : List ReportedRow → Type 0) (line lines : ℕ → Row → List ℕ) (judging : JudgeView) (is_closed keeps : Bool)
    (texts : List (Option (Vec ℕ Global))) (indices : List ℕ) (rows : List Row) (seen : HasSeenRows has_seen line indices rows)
    → (is_closed ≡ false → keeps ≡ true)
    → (keeps ≡ true → (index : ℕ) (row : Row) → fails judging row ≡ true → line index row ≡ lines index row)
    → AreFailureTexts judging is_closed texts seen.reported → AreLinesOf lines indices rows texts
kept_known has_seen line lines judging true keeps texts indices rows seen needed same are =
    subst (AreLinesOf lines indices rows) (sym (are.empty_if_closed refl)) (none_known lines indices rows)
kept_known has_seen line lines judging false keeps texts indices rows seen needed same are =
    lines_known has_seen line lines judging false texts indices rows seen (same (needed refl)) are
