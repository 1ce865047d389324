-- A row and a report as lists of lines.
use Rattle.std.proofs.Common.{◌≡◌, ◌∙◌, ◌+◌, ◌-◌, ◌<◌, ◌≤◌, ◌^◌, ℕ, true, List, [], ◌∷◌, ◌++◌, length, Option, Some, None}
use Rattle.std.proofs.Common.{map, refl, sym, ap, arith, append-nil}
use Rattle.std.specs.Prelude.{codes}
use Rattle.std.specs.List.{AllByRecursion}
use Rattle.std.specs.Fmt.{decimal}
use Rattle.std.proofs.lemmas.List.Folds.{flat_map-map}
use Rattle.std.proofs.lemmas.Grind.{flat_map-append}
use Rattle.hex.specs.Hex.{encode_lower}
use Rattle.rv_text.specs.Numbers.{word_digits}
use Rattle.rv_base.specs.Limits.{max_jobs}
use Rattle.rv_report.specs.declared.row.Row.{Row}
use Rattle.rv_report.specs.declared.row.Verdict.{Verdict}
use Rattle.rv_report.specs.declared.saved.SavedReport.{SavedReport}
use Rattle.rv_report.specs.Report.{line, verdict_name, end_line, dash_if_empty, console_line, signature_lines, row_text}
use Rattle.rv_report.specs.Saved.{IsValidRow, IsValidSignature, IsValidReport, are_increasing, max_words, numbered_rows_text, saved_text}
use Rattle.rv_report.proofs.Pieces.{lacks}
use Rattle.rv_report.proofs.Words.{lacks-decimal, lacks-digits}
use Rattle.rv_report.proofs.Spelled.{end_words, end_is_line, lacks-job, lacks-end, lacks-shown, lacks-verdict, regroup}
use Rattle.rv_report.proofs.Parts.{last_words, last_is_line, lacks-last, prove_row_has_numbers}
use Rattle.rv_report.proofs.Cut.{few_numbers}
use Rattle.rv_report.proofs.Drafts.{all-append}
use Rattle.rv_report.proofs.Reports.{rising_parts}
use Rattle.rv_report.proofs.LineLists.{joined, AreLines}

-- ---- the lines

abbrev pub job_words : ℕ → List ℕ → List ℕ
job_words n name = codes "job " ++ decimal n ++ codes " " ++ name

abbrev pub steps_change_text : ℕ → List ℕ
steps_change_text steps = codes "steps " ++ decimal steps

abbrev pub console_change_text : List ℕ → List ℕ
console_change_text bytes = codes "console " ++ dash_if_empty (encode_lower bytes)

abbrev pub count_words : ℕ → List ℕ
count_words count = codes "signature " ++ decimal count

abbrev pub verdict_change_text : Verdict → List ℕ
verdict_change_text v = codes "verdict " ++ verdict_name v

abbrev pub lines_of_signature : Option (List ℕ) → List (List ℕ)
lines_of_signature None = codes "signature -" ∷ []
lines_of_signature (Some ws) = count_words (length ws) ∷ map word_digits ws

abbrev pub row_lines : ℕ → Row → List (List ℕ)
row_lines n row = job_words n row.name ∷ end_words row.ending ∷ steps_change_text row.steps ∷ console_change_text row.console
    ∷ (lines_of_signature row.signature ++ verdict_change_text row.verdict ∷ [])

abbrev pub numbered_lines : List ℕ → List Row → List (List ℕ)
numbered_lines (n ∷ ns) (row ∷ rows) = row_lines n row ++ numbered_lines ns rows
numbered_lines [] rows = []
numbered_lines (n ∷ ns) [] = []

abbrev pub saved_lines : SavedReport → List (List ℕ)
saved_lines r = numbered_lines r.numbers r.rows ++ last_words r.extent (length r.rows) ∷ []

-- ---- their text

pub joined_signature : (s : Option (List ℕ)) → joined (lines_of_signature s) ≡ signature_lines s
unfolding signature_lines
joined_signature None = refl
joined_signature (Some ws) = ap (λ (t : List ℕ). line (count_words (length ws)) ++ t) (flat_map-map line word_digits ws)

pub joined_row : (n place : ℕ) (row : Row) → place + 1 ≡ n → joined (row_lines n row) ≡ row_text place row
unfolding row_text console_line
joined_row n place row same =
    let j = line (job_words n row.name) in
    let e = line (end_words row.ending) in
    let s = line (steps_change_text row.steps) in
    let c = line (console_change_text row.console) in
    let v = line (verdict_change_text row.verdict) in
    let g = signature_lines row.signature in
    ap (λ (t : List ℕ). j ++ (e ++ (s ++ (c ++ t)))) (flat_map-append line (lines_of_signature row.signature) (verdict_change_text row.verdict ∷ []))
    ∙ ap (λ (t : List ℕ). j ++ (e ++ (s ++ (c ++ (t ++ (v ++ [])))))) (joined_signature row.signature)
    ∙ ap (λ (t : List ℕ). j ++ (t ++ (s ++ (c ++ (g ++ (v ++ [])))))) (sym (end_is_line row.ending))
    ∙ sym (regroup j (end_line row.ending) s c g v [])
    ∙ append-nil (j ++ end_line row.ending ++ s ++ c ++ g ++ v)
    ∙ ap (λ (k : ℕ). line (job_words k row.name) ++ end_line row.ending ++ s ++ c ++ g ++ v) (sym same)

pub joined_numbered : (before : ℕ) (ns : List ℕ) (rows : List Row) → are_increasing before max_jobs ns ≡ true
    → joined (numbered_lines ns rows) ≡ numbered_rows_text ns rows
unfolding numbered_rows_text
joined_numbered before [] rows h = refl
joined_numbered before (n ∷ ns) [] h = refl
joined_numbered before (n ∷ ns) (row ∷ rows) h =
    let parts = rising_parts before max_jobs n ns h in
    let low : before < n = parts.0 in
    flat_map-append line (row_lines n row) (numbered_lines ns rows)
    ∙ ap (λ (t : List ℕ). t ++ joined (numbered_lines ns rows)) (joined_row n (n - 1) row (omega arith))
    ∙ ap (λ (t : List ℕ). row_text (n - 1) row ++ t) (joined_numbered n ns rows parts.2)

pub joined_saved : (r : SavedReport) → IsValidReport r → joined (saved_lines r) ≡ saved_text r
unfolding saved_text
joined_saved r h =
    let last = last_words r.extent (length r.rows) in
    flat_map-append line (numbered_lines r.numbers r.rows) (last ∷ [])
    ∙ ap (λ (t : List ℕ). t ++ (line last ++ [])) (joined_numbered 0 r.numbers r.rows h.listed.rising)
    ∙ ap (λ (t : List ℕ). numbered_rows_text r.numbers r.rows ++ t) (append-nil (line last))
    ∙ ap (λ (t : List ℕ). numbered_rows_text r.numbers r.rows ++ t) (sym (last_is_line r.extent (length r.rows)))

-- ---- no line has a line feed in it

words_are_lines : (ws : List ℕ) → AreLines (map word_digits ws)
words_are_lines [] = tt
words_are_lines (w ∷ ws) = (lacks-digits w, words_are_lines ws)

signature_is_lines : (s : Option (List ℕ)) → IsValidSignature s → AreLines (lines_of_signature s)
signature_is_lines None h = (refl, tt)
signature_is_lines (Some ws) h =
    let few : length ws ≤ max_words = h.0 in
    (lacks-decimal 10 (length ws) (omega arith) (omega arith), words_are_lines ws)

pub row_is_lines : (n : ℕ) (row : Row) → n < 2 ^ 64 → IsValidRow row → AreLines (row_lines n row)
row_is_lines n row small is =
    let steps = is.steps in
    let last = all-append (λ l. lacks 10 l ≡ true) (lines_of_signature row.signature) (verdict_change_text row.verdict ∷ [])
    (signature_is_lines row.signature is.signature) (lacks-verdict row.verdict, tt) in (
      lacks-job n row.name small is.name,
      (
        lacks-end row.ending is.ending,
        (lacks-decimal 10 row.steps (omega arith) (omega arith), (lacks-shown row.console is.console, last)),
      ),
    )

numbered_is_lines : (before : ℕ) (ns : List ℕ) (rows : List Row) → are_increasing before max_jobs ns ≡ true
    → AllByRecursion IsValidRow rows → AreLines (numbered_lines ns rows)
numbered_is_lines before [] rows h is = tt
numbered_is_lines before (n ∷ ns) [] h is = tt
numbered_is_lines before (n ∷ ns) (row ∷ rows) h is =
    let parts = rising_parts before max_jobs n ns h in
    let high : n ≤ max_jobs = parts.1 in
    all-append (λ l. lacks 10 l ≡ true) (row_lines n row) (numbered_lines ns rows)
    (row_is_lines n row (omega arith) is.0) (numbered_is_lines n ns rows parts.2 is.1)

pub saved_is_lines : (r : SavedReport) → IsValidReport r → AreLines (saved_lines r)
saved_is_lines r h =
    let counted = h.listed.counted in
    let few = few_numbers r.numbers h.listed.rising in
    all-append (λ l. lacks 10 l ≡ true) (numbered_lines r.numbers r.rows) (last_words r.extent (length r.rows) ∷ [])
    (numbered_is_lines 0 r.numbers r.rows h.listed.rising h.rows)
    (lacks-last r.extent (length r.rows) (prove_row_has_numbers r.extent r.numbers h.listed.fits) (omega arith), tt)
