-- The line that a report is refused at is the first that no report has.
use Rattle.std.proofs.Common.{◌≡◌, ◌∙◌, ◌==◌, ◌+◌, ◌-◌, ◌≤◌, ℕ, zero, suc, Bool, true, false, not, cond, List, []}
use Rattle.std.proofs.Common.{◌∷◌, ◌++◌, length, refl, sym, ap, arith, subst, inl, inr}
use Rattle.std.proofs.lemmas.Bool.{and_from, cases_Bool, eqb-true}
use Rattle.std.proofs.lemmas.Grind.{flat_map-append}
use Rattle.rv_report.specs.declared.saved.SavedReport.{SavedReport}
use Rattle.rv_report.specs.Report.{line}
use Rattle.rv_report.specs.LenientReport.{lenient_report}
use Rattle.rv_report.specs.Saved.{IsValidReport, saved_text}
use Rattle.rv_report.specs.Differences.{line_feed_count}
use Rattle.rv_report.specs.FirstInvalidLine.{first_lines, IsReportPrefix}
use Rattle.rv_report.proofs.Pieces.{lacks}
use Rattle.rv_report.proofs.Cut.{said_can_be}
use Rattle.rv_report.proofs.LineLists.{joined, AreLines, first_of_lines}
use Rattle.rv_report.proofs.RowLines.{saved_lines, joined_saved, saved_is_lines}
use Rattle.rv_report.proofs.KeptReport.{lines_kept}

-- ---- the first lines of a text, one by one

-- the first so many lines, each of which has its line feed, and the rest
pub record FirstLines (count : ℕ) (bytes : List ℕ) : Type 0 where
  pub ls : List (List ℕ)
  pub rest : List ℕ
  pub are_lines : AreLines ls
  pub first : first_lines count bytes ≡ joined ls
  pub all : bytes ≡ joined ls ++ rest
  pub feeds : line_feed_count (joined ls) ≡ count

not_empty : (n : ℕ) → (suc n == 0) ≡ false
not_empty n = grind arith

one_less : (n : ℕ) → suc n - 1 ≡ n
one_less n = omega arith

-- a line feed ends the first line
pub past_feed : (b c : ℕ) (bs : List ℕ) → (b == 10) ≡ true → first_lines (suc c) (b ∷ bs) ≡ b ∷ first_lines c bs
unfolding first_lines
past_feed b c bs e =
    ap (λ (t : Bool). cond t [] (b ∷ first_lines (cond (b == 10) (suc c - 1) (suc c)) bs)) (not_empty c)
    ∙ ap (λ (t : Bool). b ∷ first_lines (cond t (suc c - 1) (suc c)) bs) e
    ∙ ap (λ (n : ℕ). b ∷ first_lines n bs) (one_less c)

pub past_byte : (b c : ℕ) (bs : List ℕ) → (b == 10) ≡ false → first_lines (suc c) (b ∷ bs) ≡ b ∷ first_lines (suc c) bs
unfolding first_lines
past_byte b c bs e =
    ap (λ (t : Bool). cond t [] (b ∷ first_lines (cond (b == 10) (suc c - 1) (suc c)) bs)) (not_empty c)
    ∙ ap (λ (t : Bool). b ∷ first_lines (cond t (suc c - 1) (suc c)) bs) e

pub feeds_of : (b : ℕ) (bs : List ℕ) (t : Bool) → (b == 10) ≡ t
    → line_feed_count (b ∷ bs) ≡ cond t (line_feed_count bs + 1) (line_feed_count bs)
feeds_of b bs t e = ap (λ (s : Bool). cond s (line_feed_count bs + 1) (line_feed_count bs)) e

feed_before : (b c : ℕ) (bs : List ℕ) → (b == 10) ≡ true → FirstLines c bs → FirstLines (suc c) (b ∷ bs)
feed_before b c bs e h =
    let is : b ≡ 10 = eqb-true b 10 e in
    let feeds = h.feeds in
    let more : line_feed_count (10 ∷ joined h.ls) ≡ line_feed_count (joined h.ls) + 1 = feeds_of 10 (joined h.ls) true refl in
    record {
      ls = [] ∷ h.ls;
      rest = h.rest;
      are_lines = (refl, h.are_lines);
      first = past_feed b c bs e ∙ ap (λ (t : List ℕ). b ∷ t) h.first ∙ ap (λ (n : ℕ). n ∷ joined h.ls) is;
      all = ap (λ (t : List ℕ). b ∷ t) h.all ∙ ap (λ (n : ℕ). n ∷ (joined h.ls ++ h.rest)) is;
      feeds = omega arith;
    }

byte_before : (b c : ℕ) (bs : List ℕ) (ls : List (List ℕ)) (rest : List ℕ) → (b == 10) ≡ false → AreLines ls
    → first_lines (suc c) bs ≡ joined ls → bs ≡ joined ls ++ rest → line_feed_count (joined ls) ≡ suc c
    → FirstLines (suc c) (b ∷ bs)
byte_before b c bs [] rest e are first all feeds = absurd (omega arith)
byte_before b c bs (l ∷ ls) rest e are first all feeds = record {
  ls = (b ∷ l) ∷ ls;
  rest = rest;
  are_lines = (and_from (not (b == 10)) (lacks 10 l) (ap not e) are.0, are.1);
  first = past_byte b c bs e ∙ ap (λ (t : List ℕ). b ∷ t) first;
  all = ap (λ (t : List ℕ). b ∷ t) all;
  feeds = feeds_of b (joined (l ∷ ls)) false e ∙ feeds;
}

pub split_lines : (bytes : List ℕ) (c : ℕ) → c ≤ line_feed_count bytes → FirstLines c bytes
unfolding first_lines
split_lines [] zero h = record { ls = []; rest = []; are_lines = tt; first = refl; all = refl; feeds = refl }
split_lines [] (suc c) h = absurd (omega arith)
split_lines (b ∷ bs) zero h = record { ls = []; rest = b ∷ bs; are_lines = tt; first = refl; all = refl; feeds = refl }
split_lines (b ∷ bs) (suc c) h =
    elim (cases_Bool (b == 10)) [
      | inl e ↦
          let f : line_feed_count (b ∷ bs) ≡ line_feed_count bs + 1 = feeds_of b bs true e in
          feed_before b c bs e (split_lines bs c (omega arith))
      | inr e ↦
          let f : line_feed_count (b ∷ bs) ≡ line_feed_count bs = feeds_of b bs false e in
          let s = split_lines bs (suc c) (omega arith) in
          byte_before b c bs s.ls s.rest e s.are_lines s.first s.all s.feeds
    ]

-- ---- lines that a report begins with

-- lines that a report begins with are said, whatever follows
pub said_begins : (r : SavedReport) → IsValidReport r → (ls : List (List ℕ)) (v w : List ℕ) → AreLines ls
    → saved_text r ≡ joined ls ++ v
    → (rest : List ℕ) × (saved_text (lenient_report (joined ls ++ w)) ≡ joined ls ++ rest)
said_begins r h ls v w are is =
    let same = first_of_lines ls (saved_lines r) v are (saved_is_lines r h) (sym is ∙ sym (joined_saved r h)) in
    let P : List (List ℕ) → Type 0 = λ ms. (more : List (List ℕ)) × (saved_lines (lenient_report (joined ms ++ w)) ≡ ms ++ more) in
    let kept = subst P (sym same) (lines_kept r h (length ls) w) in
    let text = joined ls ++ w in
    (joined kept.0, sym (joined_saved (lenient_report text) (said_can_be text)) ∙ ap joined kept.1 ∙ flat_map-append line ls kept.0)

pub lines_stay : (bytes : List ℕ) (c : ℕ) → c ≤ line_feed_count bytes → IsReportPrefix (first_lines c bytes)
    → (rest : List ℕ) × (saved_text (lenient_report bytes) ≡ first_lines c bytes ++ rest)
lines_stay bytes c within begins =
    let s = split_lines bytes c within in
    let said = said_begins begins.0 begins.2 s.ls begins.1 s.rest s.are_lines
    (begins.3 ∙ ap (λ (t : List ℕ). t ++ begins.1) s.first) in (
      said.0,
      ap (λ (t : List ℕ). saved_text (lenient_report t)) s.all ∙ said.1
          ∙ ap (λ (t : List ℕ). t ++ said.0) (sym s.first),
    )
