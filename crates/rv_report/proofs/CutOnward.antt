-- Bytes that end where what is said goes on are cut off.
use Rattle.std.proofs.Common.{◌≡◌, ◌∙◌, ℕ, true, List, []}
use Rattle.std.proofs.Common.{◌∷◌, ◌++◌, drop, get_or, refl, sym, ap, subst, inl, inr}
use Rattle.std.specs.Prelude.{codes}
use Rattle.std.specs.Fmt.{decimal}
use Rattle.std.proofs.lemmas.Grind.{flat_map-append}
use Rattle.rv_report.specs.declared.row.Row.{Row}
use Rattle.rv_report.specs.declared.saved.Extent.{Extent}
use Rattle.rv_report.specs.declared.saved.Extent.TheVariants.{Whole, Selection}
use Rattle.rv_report.specs.declared.saved.Extent.TheVariants as extent
use Rattle.rv_report.specs.declared.read.FirstWordState.TheVariants as word
use Rattle.rv_report.specs.declared.read.ReadError.TheVariants.{Truncated}
use Rattle.rv_report.specs.Report.{line}
use Rattle.rv_report.specs.LenientReport.{lenient_report}
use Rattle.rv_report.specs.Saved.{saved_text}
use Rattle.rv_report.specs.Differences.{begins_row, read_error_from}
use Rattle.rv_report.proofs.Pieces.{lacks}
use Rattle.rv_report.proofs.Parts.{last_words}
use Rattle.rv_report.proofs.Cut.{said_can_be}
use Rattle.rv_report.proofs.LineLists.{joined}
use Rattle.rv_report.proofs.RowLines.{job_words, numbered_lines, joined_saved}
use Rattle.rv_report.proofs.KeptReport.{said_lines}
use Rattle.rv_report.proofs.CutText.{alike_cut, row_cut, passed_lines, same_word}
use Rattle.rv_report.proofs.NextRows.{Onward}

row_begun : (p t q : List ℕ) → 106 ∷ 111 ∷ 98 ∷ 32 ∷ t ≡ (106 ∷ p) ++ q → begins_row (106 ∷ p) ≡ true
row_begun [] t q e = refl
row_begun (c ∷ []) t q e =
    let second : 111 ≡ c = ap (λ (x : List ℕ). get_or x 1 0) e in
    subst (λ (n : ℕ). begins_row (106 ∷ n ∷ []) ≡ true) second refl
row_begun (c ∷ d ∷ []) t q e =
    let second : 111 ≡ c = ap (λ (x : List ℕ). get_or x 1 0) e in
    let third : 98 ≡ d = ap (λ (x : List ℕ). get_or x 2 0) e in
    subst (λ (n : ℕ). begins_row (106 ∷ n ∷ d ∷ []) ≡ true) second
    (subst (λ (n : ℕ). begins_row (106 ∷ 111 ∷ n ∷ []) ≡ true) third refl)
row_begun (c ∷ d ∷ f ∷ []) t q e =
    let second : 111 ≡ c = ap (λ (x : List ℕ). get_or x 1 0) e in
    let third : 98 ≡ d = ap (λ (x : List ℕ). get_or x 2 0) e in
    let fourth : 32 ≡ f = ap (λ (x : List ℕ). get_or x 3 0) e in
    subst (λ (n : ℕ). begins_row (106 ∷ n ∷ d ∷ f ∷ []) ≡ true) second
    (subst (λ (n : ℕ). begins_row (106 ∷ 111 ∷ n ∷ f ∷ []) ≡ true) third
    (subst (λ (n : ℕ). begins_row (106 ∷ 111 ∷ 98 ∷ n ∷ []) ≡ true) fourth refl))
row_begun (c ∷ d ∷ f ∷ g ∷ p) t q e =
    let second : 111 ≡ c = ap (λ (x : List ℕ). get_or x 1 0) e in
    let third : 98 ≡ d = ap (λ (x : List ℕ). get_or x 2 0) e in
    let fourth : 32 ≡ f = ap (λ (x : List ℕ). get_or x 3 0) e in
    subst (λ (n : ℕ). begins_row (106 ∷ n ∷ d ∷ f ∷ g ∷ p) ≡ true) second
    (subst (λ (n : ℕ). begins_row (106 ∷ 111 ∷ n ∷ f ∷ g ∷ p) ≡ true) third
    (subst (λ (n : ℕ). begins_row (106 ∷ 111 ∷ 98 ∷ n ∷ g ∷ p) ≡ true) fourth refl))

last_line_cut : (e : Extent) (count m : ℕ) (p : List ℕ) → lacks 10 (106 ∷ p) ≡ true → begins_row (106 ∷ p) ≡ true
    → read_error_from m word.NotStarted (line (last_words e count) ++ []) (106 ∷ p) ≡ Truncated
last_line_cut extent.Whole count m p plain row =
    row_cut p (drop 1 (line (last_words extent.Whole count) ++ [])) 100 m plain refl refl row
last_line_cut (extent.Selection jobs) count m p plain row =
    row_cut p (drop 1 (line (last_words (extent.Selection jobs) count) ++ [])) 112 m plain refl refl row
last_line_cut (extent.Shard s) count m p plain row =
    row_cut p (drop 1 (line (last_words (extent.Shard s) count) ++ [])) 112 m plain refl refl row

-- the bytes end in a row's first line, and the rows go on or end
between_cut : (ns : List ℕ) (rows : List Row) (e : Extent) (count m n : ℕ) (name p q : List ℕ) → lacks 10 (106 ∷ p) ≡ true
    → job_words n name ≡ (106 ∷ p) ++ q
    → read_error_from m word.NotStarted (joined (numbered_lines ns rows ++ last_words e count ∷ [])) (106 ∷ p) ≡ Truncated
between_cut [] rows e count m n name p q plain is =
    last_line_cut e count m p plain (row_begun p (decimal n ++ codes " " ++ name) q is)
between_cut (k ∷ ns) [] e count m n name p q plain is =
    last_line_cut e count m p plain (row_begun p (decimal n ++ codes " " ++ name) q is)
between_cut (k ∷ ns) (row ∷ rows) e count m n name p q plain is =
    let all = numbered_lines (k ∷ ns) (row ∷ rows) ++ last_words e count ∷ [] in
    alike_cut (106 ∷ p) (job_words k row.name) (joined (drop 1 all)) m plain
    (same_word (codes "job") (decimal n ++ codes " " ++ name) (decimal k ++ codes " " ++ row.name) (106 ∷ p) q is)

pub onward_cut : (b : ℕ) (p : List ℕ) (more : List (List ℕ)) (ns : List ℕ) (rows : List Row) (e : Extent) (count m : ℕ)
    → lacks 10 (b ∷ p) ≡ true → Onward (b ∷ p) more
    → read_error_from m word.NotStarted (joined ((more ++ numbered_lines ns rows) ++ last_words e count ∷ [])) (b ∷ p) ≡ Truncated
onward_cut b p more ns rows e count m plain (inl on) =
    let last = last_words e count ∷ [] in
    ap (λ (t : List (List ℕ)). read_error_from m word.NotStarted (joined ((t ++ numbered_lines ns rows) ++ last)) (b ∷ p)) on.2
    ∙ alike_cut (b ∷ p) on.0 (joined ((on.1 ++ numbered_lines ns rows) ++ last)) m plain on.3
onward_cut b p more ns rows e count m plain (inr on) =
    let last = last_words e count ∷ [] in
    let first : 106 ≡ b = ap (λ (t : List ℕ). get_or t 0 0) on.3 in
    let P : ℕ → Type 0 = λ c. read_error_from m word.NotStarted (joined (numbered_lines ns rows ++ last)) (c ∷ p) ≡ Truncated in
    ap (λ (t : List (List ℕ)). read_error_from m word.NotStarted (joined ((t ++ numbered_lines ns rows) ++ last)) (b ∷ p)) on.4
    ∙ subst P first (between_cut ns rows e count m on.0 on.1 p on.2
    (subst (λ (c : ℕ). lacks 10 (c ∷ p) ≡ true) (sym first) plain)
    (subst (λ (c : ℕ). job_words on.0 on.1 ≡ (c ∷ p) ++ on.2) (sym first) on.3))

-- what is told behind lines that are the same
pub cut_lines : (ls more : List (List ℕ)) (p text : List ℕ) → text ≡ joined (ls ++ more)
    → ((m : ℕ) → read_error_from m word.NotStarted (joined more) p ≡ Truncated)
    → read_error_from 1 word.NotStarted text (joined ls ++ p) ≡ Truncated
cut_lines ls more p text e h =
    let passed = passed_lines ls (joined more) p 1 in
    ap (λ (t : List ℕ). read_error_from 1 word.NotStarted t (joined ls ++ p)) (e ∙ flat_map-append line ls more)
    ∙ passed.1 ∙ h passed.0

pub said_text : (text : List ℕ) (ls : List (List ℕ)) → said_lines text ≡ ls → saved_text (lenient_report text) ≡ joined ls
said_text text ls e = sym (joined_saved (lenient_report text) (said_can_be text)) ∙ ap joined e
