-- A beginning of a report is told as cut off.
use Rattle.std.proofs.Common.{◌≡◌, ◌∙◌, ◌==◌, ◌+◌, ◌<◌, ℕ, zero, true, not, List, []}
use Rattle.std.proofs.Common.{◌∷◌, ◌++◌, length, take, drop, get_or, refl, sym, ap, arith, subst, append_assoc, append-nil, length-append, take_all, inl, inr}
use Rattle.std.specs.Prelude.{codes}
use Rattle.std.specs.Fmt.{decimal}
use Rattle.std.proofs.lemmas.Bool.{and_parts, cases_lt}
use Rattle.std.proofs.lemmas.List.{take-append-le}
use Rattle.rv_base.specs.Limits.{max_jobs}
use Rattle.rv_report.specs.declared.row.Row.{Row}
use Rattle.rv_report.specs.declared.saved.Extent.{Extent}
use Rattle.rv_report.specs.declared.saved.Extent.TheVariants.{Whole, Selection}
use Rattle.rv_report.specs.declared.saved.Extent.TheVariants as extent
use Rattle.rv_report.specs.declared.saved.Shard.{Shard}
use Rattle.rv_report.specs.declared.saved.SavedReport.{SavedReport}
use Rattle.rv_report.specs.declared.read.FirstWordState.TheVariants as word
use Rattle.rv_report.specs.declared.read.ReadError.TheVariants.{Truncated}
use Rattle.rv_report.specs.Report.{line}
use Rattle.rv_report.specs.LenientReport.{ReaderStateView, state_between_rows, with_stage_done, with_last_row_finished, state_after_text, lenient_report, part_extent_of_line}
use Rattle.rv_report.specs.LenientReport.{shard_of_text, extent_or_selection, after_job_or_last_line, with_line, decimal_number, text_before_byte, text_after_byte}
use Rattle.rv_report.specs.Saved.{IsValidReport, matches_job_numbers, shard_text, row_names, saved_text}
use Rattle.rv_report.specs.Differences.{read_error_from}
use Rattle.rv_report.proofs.Pieces.{lacks}
use Rattle.rv_report.proofs.Spelled.{says}
use Rattle.rv_report.proofs.Parts.{last_words, prove_row_has_numbers}
use Rattle.rv_report.proofs.Cut.{few_numbers}
use Rattle.rv_report.proofs.Reports.{rows_say, finished_all, gathered_all, says_itself}
use Rattle.rv_report.proofs.LineLists.{joined, AreLines, first_of_lines, same_line, no_feed, line_is_some}
use Rattle.rv_report.proofs.Grown.{chosen}
use Rattle.rv_report.proofs.RowLines.{numbered_lines, saved_lines, joined_numbered, joined_saved, saved_is_lines}
use Rattle.rv_report.proofs.CollectedRows.{Covers, take_past}
use Rattle.rv_report.proofs.KeptReport.{said_by, kept_cut}
use Rattle.rv_report.proofs.FirstInvalidLine.{said_begins}
use Rattle.rv_report.proofs.CutWord.{take_none}
use Rattle.rv_report.proofs.CutText.{AlikeLine, alike_cut, passed_lines, same_word}
use Rattle.rv_report.proofs.NextRow.{says_alone}
use Rattle.rv_report.proofs.NextRows.{rows_next, get_in, get_past}
use Rattle.rv_report.proofs.CutOnward.{onward_cut, cut_lines, said_text}

-- ---- the line that a text ends in

begin_of_line : (p v x a : List ℕ) → lacks 10 p ≡ true → p ++ v ≡ line x ++ a → (q : List ℕ) × (x ≡ p ++ q)
begin_of_line [] v x a h e = (x, refl)
begin_of_line (c ∷ p) v [] a h e = absurd (no_feed c p h (ap (λ (t : List ℕ). get_or t 0 0) e))
begin_of_line (c ∷ p) v (y ∷ x) a h e =
    let first : c ≡ y = ap (λ (t : List ℕ). get_or t 0 0) e in
    let rest = begin_of_line p v x a (and_parts (not (c == 10)) (lacks 10 p) h).1 (ap (λ (t : List ℕ). drop 1 t) e) in
    (rest.0, ap (λ (n : ℕ). n ∷ x) (sym first) ∙ ap (λ (t : List ℕ). c ∷ t) rest.1)

-- the next line, of which this is the beginning
pub record LineBegun (ls : List (List ℕ)) (k : ℕ) (p : List ℕ) : Type 0 where
  pub within : k < length ls
  pub rest : List ℕ
  pub begun : get_or ls k [] ≡ p ++ rest

line_behind : (ls ms : List (List ℕ)) (b : ℕ) (p v : List ℕ) → AreLines ls → AreLines ms → lacks 10 (b ∷ p) ≡ true
    → joined ls ++ ((b ∷ p) ++ v) ≡ joined ms → LineBegun ms (length ls) (b ∷ p)
line_behind [] [] b p v h k plain e =
    let n : length (b ∷ (p ++ v)) ≡ 0 = ap (λ (t : List ℕ). length t) e in absurd (omega arith)
line_behind [] (m ∷ ms) b p v h k plain e =
    let s = begin_of_line (b ∷ p) v m (joined ms) plain e in
    record { within = omega arith; rest = s.0; begun = s.1 }
line_behind (l ∷ ls) [] b p v h k plain e = absurd (line_is_some l (joined ls ++ ((b ∷ p) ++ v))
    (sym (append_assoc (line l) (joined ls) ((b ∷ p) ++ v)) ∙ e))
line_behind (l ∷ ls) (m ∷ ms) b p v h k plain e =
    let same = same_line l m (joined ls ++ ((b ∷ p) ++ v)) (joined ms) h.0 k.0
    (sym (append_assoc (line l) (joined ls) ((b ∷ p) ++ v)) ∙ e) in
    let later = line_behind ls ms b p v h.1 k.1 plain same.1 in
    let within = later.within in
    record { within = omega arith; rest = later.rest; begun = later.begun }

-- ---- the rows

abbrev IsCut : List ℕ → Type 0
IsCut bytes = read_error_from 1 word.NotStarted (saved_text (lenient_report bytes)) bytes ≡ Truncated

-- the bytes end in a line of a row
rows_cut : (r : SavedReport) → IsValidReport r → (k b : ℕ) (p q : List ℕ) → lacks 10 (b ∷ p) ≡ true
    → k < length (numbered_lines r.numbers r.rows) → get_or (numbered_lines r.numbers r.rows) k [] ≡ (b ∷ p) ++ q
    → IsCut (joined (take k (numbered_lines r.numbers r.rows)) ++ b ∷ p)
unfolding lenient_report state_after_text
rows_cut r h k b p q plain within begins =
    let counted = h.listed.counted in
    let few = few_numbers r.numbers h.listed.rising in
    let ls = take k (numbered_lines r.numbers r.rows) in
    let text = joined ls ++ b ∷ p in
    let f = with_last_row_finished (says text (state_between_rows [] [] Whole)) in
    let next = rows_next k r.numbers r.rows b p q [] [] Whole 0 h.rows counted h.listed.rising (omega arith) plain within
    begins in
    let c = next.covers in
    let s = kept_cut r h k f c in
    let ns = take s.taken c.more_numbers in
    let e = extent_or_selection f.extent s.all_numbers in
    let more = (c.more ++ numbered_lines ns s.rows) ++ last_words e s.count ∷ [] in
    cut_lines ls more (b ∷ p) (saved_text (lenient_report text)) (said_text text (ls ++ more) s.are)
    (λ m. onward_cut b p c.more ns s.rows e s.count m plain next.onward)

-- ---- the last line

-- a last line of a part of the jobs
abbrev IsPartLine : Extent → Type 0
IsPartLine e = (count : ℕ) → (t : List ℕ) × (last_words e count ≡ codes "part" ++ 32 ∷ t)

choice_line : (jobs : ℕ) → IsPartLine (extent.Selection jobs)
choice_line jobs count = (decimal count ++ codes " of " ++ decimal jobs, refl)

shard_line : (s : Shard) → IsPartLine (extent.Shard s)
shard_line s count = ((decimal count ++ codes " of " ++ decimal s.jobs) ++ shard_text s, refl)

part_line_of : (l : List ℕ) → IsPartLine (part_extent_of_line l)
unfolding part_extent_of_line shard_of_text
part_line_of l =
    let jobs = drop 3 (text_after_byte 32 (drop 5 l)) in
    let shard = drop 6 (text_after_byte 32 jobs) in
    let number = decimal_number (text_before_byte 32 jobs) in
    chosen IsPartLine (length shard == 0) (extent.Selection number) (shard_of_text number shard) (choice_line number) (shard_line _)

chosen_line : (e : Extent) (ns : List ℕ) → IsPartLine e → IsPartLine (extent_or_selection e ns)
unfolding extent_or_selection
chosen_line e ns h = chosen IsPartLine (matches_job_numbers e ns) e (Selection max_jobs) h (choice_line max_jobs)

-- what is gathered of all rows and a beginning of the last line
gathered_last : (r : SavedReport) → IsValidReport r → (b : ℕ) (p : List ℕ) → lacks 10 (b ∷ p) ≡ true
    → state_after_text (joined (numbered_lines r.numbers r.rows) ++ b ∷ p)
    ≡ with_last_row_finished (with_line (b ∷ p) (state_between_rows r.numbers r.rows Whole))
unfolding state_after_text
gathered_last r h b p plain =
    let counted = h.listed.counted in
    let few = few_numbers r.numbers h.listed.rising in
    let start = state_between_rows [] [] Whole in
    ap (λ (t : List ℕ). with_last_row_finished (says (t ++ b ∷ p) start)) (joined_numbered 0 r.numbers r.rows h.listed.rising)
    ∙ ap with_last_row_finished (rows_say r.numbers r.rows (b ∷ p) [] [] Whole 0 h.rows counted h.listed.rising (omega arith)
    ∙ says_alone b p (state_between_rows r.numbers r.rows Whole) plain)

done_read : (p ns : List ℕ) (rows : List Row) → with_line (100 ∷ p) (state_between_rows ns rows Whole)
    ≡ with_stage_done (state_between_rows ns rows Whole)
unfolding with_line after_job_or_last_line state_between_rows
done_read p ns rows = refl

part_read : (p ns : List ℕ) (rows : List Row) → with_line (112 ∷ p) (state_between_rows ns rows Whole)
    ≡ with_stage_done (state_between_rows ns rows (part_extent_of_line (112 ∷ p)))
unfolding with_line after_job_or_last_line state_between_rows
part_read p ns rows = refl

-- a beginning of `done ..` says the report
done_says_all : (r : SavedReport) → IsValidReport r → (p : List ℕ) → lacks 10 (100 ∷ p) ≡ true → r.extent ≡ Whole
    → lenient_report (joined (numbered_lines r.numbers r.rows) ++ 100 ∷ p) ≡ r
unfolding lenient_report
done_says_all r h p plain whole =
    let counted = h.listed.counted in
    let few = few_numbers r.numbers h.listed.rising in
    let known = prove_row_has_numbers r.extent r.numbers h.listed.fits in
    ap said_by (gathered_last r h 100 p plain
    ∙ ap with_last_row_finished (done_read p r.numbers r.rows)
    ∙ finished_all r.numbers r.rows Whole
    ∙ ap (λ (e : Extent). with_stage_done (state_between_rows r.numbers r.rows e)) (sym whole)
    ∙ sym (gathered_all r h known (omega arith)))
    ∙ says_itself r h

done_cut : (r : SavedReport) → IsValidReport r → (p q : List ℕ) → lacks 10 (100 ∷ p) ≡ true → r.extent ≡ Whole
    → last_words r.extent (length r.rows) ≡ (100 ∷ p) ++ q
    → IsCut (joined (numbered_lines r.numbers r.rows) ++ 100 ∷ p)
done_cut r h p q plain whole begins =
    let ls = numbered_lines r.numbers r.rows in
    let last = last_words r.extent (length r.rows) in
    let text = joined ls ++ 100 ∷ p in
    cut_lines ls (last ∷ []) (100 ∷ p) (saved_text (lenient_report text))
    (said_text text (saved_lines r) (ap saved_lines (done_says_all r h p plain whole)))
    (λ m. alike_cut (100 ∷ p) last [] m plain (inl (q, begins)))

all_covered : (r : SavedReport) → IsValidReport r → (e : Extent)
    → Covers [] [] r.numbers r.rows (length (numbered_lines r.numbers r.rows))
    (with_stage_done (state_between_rows r.numbers r.rows e))
unfolding state_between_rows
all_covered r h e =
    let counted = h.listed.counted in
    let n = length r.rows in
    let ls = numbered_lines r.numbers r.rows in
    let ns : take n r.numbers ≡ r.numbers = take_all n r.numbers (omega arith) in
    let rows : take n r.rows ≡ r.rows = take_all n r.rows (omega arith) in
    let all : take (length ls) ls ≡ ls = take_all (length ls) ls (omega arith) in
    record {
      count = n;
      within = omega arith;
      first = r.rows;
      more_numbers = [];
      more_rows = [];
      more = [];
      numbers_are = sym ns ∙ sym (append-nil (take n r.numbers));
      rows_are = sym (append-nil r.rows);
      names = ap row_names (sym rows);
      lines = ap (λ (t : List ℕ). numbered_lines t r.rows) ns ∙ sym all ∙ sym (append-nil (take (length ls) ls));
    }

-- what is said of all rows and an extent
all_said : (r : SavedReport) → IsValidReport r → (e : Extent) → (ns : List ℕ) × (count : ℕ)
    × (saved_lines (said_by (with_stage_done (state_between_rows r.numbers r.rows e)))
    ≡ numbered_lines r.numbers r.rows ++ last_words (extent_or_selection e ns) count ∷ [])
unfolding all_covered state_between_rows
all_said r h e =
    let ls = numbered_lines r.numbers r.rows in
    let s = kept_cut r h (length ls) (with_stage_done (state_between_rows r.numbers r.rows e)) (all_covered r h e) in
    let last = last_words (extent_or_selection e s.all_numbers) s.count ∷ [] in (
      s.all_numbers,
      s.count,
      s.are
          ∙ ap (λ (t : List ℕ). take (length ls) ls ++ (numbered_lines t s.rows ++ last)) (take_none s.taken)
          ∙ ap (λ (t : List (List ℕ)). t ++ last) (take_all (length ls) ls (omega arith)),
    )

part_cut : (r : SavedReport) → IsValidReport r → (p q : List ℕ) → lacks 10 (112 ∷ p) ≡ true → IsPartLine r.extent
    → last_words r.extent (length r.rows) ≡ (112 ∷ p) ++ q
    → IsCut (joined (numbered_lines r.numbers r.rows) ++ 112 ∷ p)
unfolding lenient_report
part_cut r h p q plain part begins =
    let ls = numbered_lines r.numbers r.rows in
    let text = joined ls ++ 112 ∷ p in
    let e = part_extent_of_line (112 ∷ p) in
    let said = all_said r h e in
    let gathered = gathered_last r h 112 p plain ∙ ap with_last_row_finished (part_read p r.numbers r.rows)
    ∙ finished_all r.numbers r.rows e in
    let last = last_words (extent_or_selection e said.0) said.1 in
    let here = part (length r.rows) in
    let there = chosen_line e said.0 (part_line_of (112 ∷ p)) said.1 in
    let alike : AlikeLine (112 ∷ p) last = subst (λ (t : List ℕ). AlikeLine (112 ∷ p) t) (sym there.1)
    (same_word (codes "part") here.0 there.0 (112 ∷ p) q (sym here.1 ∙ begins)) in
    cut_lines ls (last ∷ []) (112 ∷ p) (saved_text (lenient_report text))
    (said_text text (ls ++ last ∷ []) (ap (λ (g : ReaderStateView). saved_lines (said_by g)) gathered ∙ said.2))
    (λ m. alike_cut (112 ∷ p) last [] m plain alike)

last_cut : (r : SavedReport) → IsValidReport r → (e : Extent) (b : ℕ) (p q : List ℕ) → lacks 10 (b ∷ p) ≡ true → r.extent ≡ e
    → last_words r.extent (length r.rows) ≡ (b ∷ p) ++ q
    → IsCut (joined (numbered_lines r.numbers r.rows) ++ b ∷ p)
last_cut r h extent.Whole b p q plain is begins =
    let count = length r.rows in
    let start = sym (ap (λ (e : Extent). last_words e count) is) ∙ begins in
    let first : 100 ≡ b = ap (λ (t : List ℕ). get_or t 0 0) start in
    subst (λ (c : ℕ). IsCut (joined (numbered_lines r.numbers r.rows) ++ c ∷ p)) first
    (done_cut r h p q (subst (λ (c : ℕ). lacks 10 (c ∷ p) ≡ true) (sym first) plain) is
    (subst (λ (c : ℕ). last_words r.extent count ≡ (c ∷ p) ++ q) (sym first) begins))
last_cut r h (extent.Selection jobs) b p q plain is begins =
    let count = length r.rows in
    let start = sym (ap (λ (e : Extent). last_words e count) is) ∙ begins in
    let first : 112 ≡ b = ap (λ (t : List ℕ). get_or t 0 0) start in
    subst (λ (c : ℕ). IsCut (joined (numbered_lines r.numbers r.rows) ++ c ∷ p)) first
    (part_cut r h p q (subst (λ (c : ℕ). lacks 10 (c ∷ p) ≡ true) (sym first) plain)
    (subst (λ (e : Extent). IsPartLine e) (sym is) (choice_line jobs))
    (subst (λ (c : ℕ). last_words r.extent count ≡ (c ∷ p) ++ q) (sym first) begins))
last_cut r h (extent.Shard s) b p q plain is begins =
    let count = length r.rows in
    let start = sym (ap (λ (e : Extent). last_words e count) is) ∙ begins in
    let first : 112 ≡ b = ap (λ (t : List ℕ). get_or t 0 0) start in
    subst (λ (c : ℕ). IsCut (joined (numbered_lines r.numbers r.rows) ++ c ∷ p)) first
    (part_cut r h p q (subst (λ (c : ℕ). lacks 10 (c ∷ p) ≡ true) (sym first) plain)
    (subst (λ (e : Extent). IsPartLine e) (sym is) (shard_line s))
    (subst (λ (c : ℕ). last_words r.extent count ≡ (c ∷ p) ++ q) (sym first) begins))

-- ---- any beginning of a report

end_cut : (z : List ℕ) (m : ℕ) → read_error_from m word.NotStarted z [] ≡ Truncated
unfolding read_error_from
end_cut [] m = refl
end_cut (b ∷ z) m = refl

-- lines and a beginning of the next
pub lines_cut : (r : SavedReport) → IsValidReport r → (ls : List (List ℕ)) (p v : List ℕ) → AreLines ls → lacks 10 p ≡ true
    → saved_text r ≡ joined ls ++ (p ++ v) → IsCut (joined ls ++ p)
lines_cut r h ls [] v are plain is =
    let said = said_begins r h ls v [] are is in
    let passed = passed_lines ls said.0 [] 1 in
    ap (λ (t : List ℕ). read_error_from 1 word.NotStarted t (joined ls ++ [])) said.1 ∙ passed.1 ∙ end_cut said.0 passed.0
lines_cut r h ls (b ∷ p) v are plain is =
    let rows = numbered_lines r.numbers r.rows in
    let last = last_words r.extent (length r.rows) in
    let all = length-append rows (last ∷ []) in
    let k = length ls in
    let whole : joined ls ++ ((b ∷ p) ++ v) ≡ joined (saved_lines r) = sym is ∙ sym (joined_saved r h) in
    let first = first_of_lines ls (saved_lines r) ((b ∷ p) ++ v) are (saved_is_lines r h) whole in
    let next = line_behind ls (saved_lines r) b p v are (saved_is_lines r h) plain whole in
    let within = next.within in
    let C : List (List ℕ) → Type 0 = λ ms. IsCut (joined ms ++ b ∷ p) in
    elim (cases_lt k (length rows)) [
      | inl inside ↦
          subst C (sym (first ∙ take-append-le k rows (last ∷ []) (omega arith)))
          (rows_cut r h k b p next.rest plain inside (sym (get_in rows (last ∷ []) k [] inside) ∙ next.begun))
      | inr past ↦
          let e : k ≡ length rows + zero = omega arith in
          subst C (sym (first ∙ take_past rows (last ∷ []) k zero e ∙ append-nil rows))
          (last_cut r h r.extent b p next.rest plain refl
          (sym (get_past rows (last ∷ []) k zero [] e) ∙ next.begun))
    ]
