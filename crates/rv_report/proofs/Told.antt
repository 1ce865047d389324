-- Where a text differs from another.
use Rattle.std.proofs.Common.{◌≡◌, ◌∙◌, ◌==◌, ◌+◌, ℕ, Bool, true, false, ◌&&◌, cond, List, [], ◌∷◌, ◌++◌, refl, sym}
use Rattle.std.proofs.Common.{ap, subst, inl, inr, append_assoc}
use Rattle.std.proofs.lemmas.Bool.{and_parts, cases_Bool, eqb-true}
use Rattle.rv_report.specs.declared.read.FirstWordState.{FirstWordState}
use Rattle.rv_report.specs.declared.read.FirstWordState.TheVariants as word
use Rattle.rv_report.specs.declared.read.ReadError.{ReadError}
use Rattle.rv_report.specs.declared.read.ReadError.TheVariants.{Line, Truncated}
use Rattle.rv_report.specs.Differences.{line_feed_count, word_after_byte, can_begin_report_line, line_after_byte, read_error_from, read_error_at, AgreeBeforeError}

swap : (s t : Bool) (n : ℕ) → cond s (cond t (n + 1) n + 1) (cond t (n + 1) n)
    ≡ cond t (cond s (n + 1) n + 1) (cond s (n + 1) n)
swap true true n = refl
swap true false n = refl
swap false true n = refl
swap false false n = refl

feeds_push : (xs : List ℕ) (b : ℕ) → line_feed_count (xs ++ b ∷ []) ≡ cond (b == 10) (line_feed_count xs + 1) (line_feed_count xs)
feeds_push [] b = refl
feeds_push (x ∷ xs) b = ap (λ (n : ℕ). cond (x == 10) (n + 1) n) (feeds_push xs b) ∙ swap (x == 10) (b == 10) (line_feed_count xs)

tells_at : (met : FirstWordState) (other : ℕ) (text bytes common ts bs : List ℕ) (line : ℕ) → text ≡ common ++ ts
    → bytes ≡ common ++ bs → line_feed_count common + 1 ≡ line → AgreeBeforeError (read_error_at line met other bs) text bytes
tells_at met other text bytes common ts bs line t b l =
    let Q : ReadError → Type 0 = λ e. AgreeBeforeError e text bytes in
    let cut : Bool = can_begin_report_line met other bs && (line_feed_count bs == 0) in
    elim (cases_Bool cut) [
      | inl z ↦
          let none = (and_parts (can_begin_report_line met other bs) (line_feed_count bs == 0) z).1 in
          subst Q (sym (ap (λ (s : Bool). cond s Truncated (Line line)) z))
          (common, bs, ts, b, t, eqb-true (line_feed_count bs) 0 none)
      | inr z ↦ subst Q (sym (ap (λ (s : Bool). cond s Truncated (Line line)) z)) (common, bs, ts, b, t, l)
    ]

feeds_past : (common : List ℕ) (b line : ℕ) → line_feed_count common + 1 ≡ line
    → line_feed_count (common ++ b ∷ []) + 1 ≡ line_after_byte line b
feeds_past common b line l =
    ap (λ (n : ℕ). n + 1) (feeds_push common b)
    ∙ elim (cases_Bool (b == 10)) [
      | inl f ↦ ap (λ (s : Bool). cond s (line_feed_count common + 1) (line_feed_count common) + 1) f ∙ ap (λ (n : ℕ). n + 1) l
          ∙ sym (ap (λ (s : Bool). cond s (line + 1) line) f)
      | inr f ↦ ap (λ (s : Bool). cond s (line_feed_count common + 1) (line_feed_count common) + 1) f ∙ l
          ∙ sym (ap (λ (s : Bool). cond s (line + 1) line) f)
    ]

tells_on : (text bytes common ts bs : List ℕ) (line : ℕ) (met : FirstWordState) → text ≡ common ++ ts
    → bytes ≡ common ++ bs → line_feed_count common + 1 ≡ line → AgreeBeforeError (read_error_from line met ts bs) text bytes
unfolding read_error_from
tells_on text bytes common [] [] line met t b l = (common, [], [], b, t, refl)
tells_on text bytes common (x ∷ ts) [] line met t b l = (common, [], x ∷ ts, b, t, refl)
tells_on text bytes common [] (y ∷ bs) line met t b l = (common, y ∷ bs, [], b, t, l)
tells_on text bytes common (x ∷ ts) (y ∷ bs) line met t b l =
    let Q : ReadError → Type 0 = λ e. AgreeBeforeError e text bytes in
    let next : ReadError = read_error_from (line_after_byte line y) (word_after_byte met y) ts bs in
    let here = read_error_at line met x (y ∷ bs) in
    elim (cases_Bool (y == x)) [
      | inl e ↦
          let t' : text ≡ (common ++ y ∷ []) ++ ts =
          t ∙ ap (λ (z : ℕ). common ++ z ∷ ts) (sym (eqb-true y x e)) ∙ sym (append_assoc common (y ∷ []) ts) in
          let b' : bytes ≡ (common ++ y ∷ []) ++ bs = b ∙ sym (append_assoc common (y ∷ []) bs) in
          subst Q (sym (ap (λ (s : Bool). cond s next here) e))
          (tells_on text bytes (common ++ y ∷ []) ts bs (line_after_byte line y) (word_after_byte met y) t' b'
          (feeds_past common y line l))
      | inr e ↦ subst Q (sym (ap (λ (s : Bool). cond s next here) e))
          (tells_at met x text bytes common (x ∷ ts) (y ∷ bs) line t b l)
    ]

pub tells : (text bytes : List ℕ) → AgreeBeforeError (read_error_from 1 word.NotStarted text bytes) text bytes
tells text bytes = tells_on text bytes [] text bytes 1 word.NotStarted refl refl refl
