-- Where the bytes end in a line of a row, the row that is said has a line that is alike.
use Rattle.std.proofs.Common.{◌≡◌, ◌∙◌, ◌==◌, ◌<◌, ◌≤◌, ◌^◌, ℕ, zero, suc, Bool, true, false, ◌&&◌, not, cond, List, []}
use Rattle.std.proofs.Common.{◌∷◌, ◌++◌, length, take, drop, get_or, slice_index, map, Option, Some, None, refl, sym, ap, arith, subst}
use Rattle.std.proofs.Common.{append_assoc, append-nil, length-append, inl}
use Rattle.std.specs.Prelude.{codes, nat_lt, is_some}
use Rattle.std.specs.List.{onto_first}
use Rattle.std.specs.Fmt.{decimal}
use Rattle.std.proofs.lemmas.Bool.{and_parts, and_from, not-true}
use Rattle.std.proofs.lemmas.Bool.Decides.{nat_tests}
use Rattle.std.proofs.lemmas.List.{map-append}
use Rattle.hex.specs.Hex.{encode_lower}
use Rattle.rv_text.specs.Numbers.{word_digits}
use Rattle.rv_base.specs.Limits.{max_jobs}
use Rattle.rv_machine.specs.Faults.{fault_name}
use Rattle.rv_report.specs.declared.row.Row.{Row}
use Rattle.rv_report.specs.declared.row.RowEnd.{RowEnd}
use Rattle.rv_report.specs.declared.row.RowEnd.TheVariants as ending
use Rattle.rv_report.specs.declared.row.Verdict.{Verdict}
use Rattle.rv_report.specs.declared.lenient_rows.Stage.TheVariants as stage
use Rattle.rv_report.specs.Report.{refusal_name, verdict_name, dash_if_empty}
use Rattle.rv_report.specs.LenientReport.{lines, is_hex_word, hex_word, are_hex_digits, verdict_of_line, ReaderStateView, state_between_rows, with_finished_row, with_stage_done}
use Rattle.rv_report.specs.LenientReport.{unfinished_row, after_word_or_verdict_line, with_line, with_lines, with_last_row_finished}
use Rattle.rv_report.specs.Saved.{IsWord, IsValidSignature, IsValidRow, max_words}
use Rattle.rv_report.proofs.Pieces.{lacks}
use Rattle.rv_report.proofs.Words.{all_digits}
use Rattle.rv_report.proofs.Cut.{length-taken}
use Rattle.rv_report.proofs.Spelled.{says, end_words, signature_says, words_or_nil, same_signature, same_length}
use Rattle.rv_report.proofs.LineLists.{joined}
use Rattle.rv_report.proofs.RecordedRow.{HasRow, with_less, KnowsWords, words_keep}
use Rattle.rv_report.proofs.RowLines.{job_words, steps_change_text, console_change_text, count_words, verdict_change_text, lines_of_signature, row_lines, joined_signature}
use Rattle.rv_report.proofs.PartialRow.{Agrees, after_console, last_lines, four_lines, agrees_four}
use Rattle.rv_report.proofs.PartialSignature.{KnowsLines, signed_says, signed_lines, all-taken}
use Rattle.rv_report.proofs.CollectedRows.{take_past}
use Rattle.rv_report.proofs.CutText.{AlikeLine, same_word}
use Rattle.rv_report.proofs.CutWord.{cut_word_digits, digits_taken}

-- a row has the name of another and the known lines, and a next one that the bytes are alike to
pub record NextAgrees (n : ℕ) (row : Row) (known : List (List ℕ)) (p : List ℕ) (r : Row) : Type 0 where
  pub name : r.name ≡ row.name
  pub next : List ℕ
  pub more : List (List ℕ)
  pub lines : row_lines n r ≡ known ++ next ∷ more
  pub alike : AlikeLine p next

-- ---- the lines before the signature's words

abbrev end_tail : RowEnd → List ℕ
end_tail (ending.Exit code) = codes "exit " ++ decimal code
end_tail (ending.Fault kind pc value) = codes "fault " ++ fault_name kind ++ codes " pc=" ++ word_digits pc ++
    codes " value=" ++ word_digits value
end_tail ending.Budget = codes "budget"
end_tail (ending.Refused why) = codes "refused " ++ refusal_name why

end_first : (e : RowEnd) → end_words e ≡ codes "end" ++ 32 ∷ end_tail e
end_first (ending.Exit code) = refl
end_first (ending.Fault kind pc value) = refl
end_first ending.Budget = refl
end_first (ending.Refused why) = refl

end_alike : (e f : RowEnd) (p q : List ℕ) → end_words e ≡ p ++ q → AlikeLine p (end_words f)
end_alike e f p q is =
    subst (λ (t : List ℕ). AlikeLine p t) (sym (end_first f))
    (same_word (codes "end") (end_tail e) (end_tail f) p q (sym (end_first e) ∙ is))

abbrev signature_tail : Option (List ℕ) → List ℕ
signature_tail None = codes "-"
signature_tail (Some ws) = decimal (length ws)

abbrev signature_change_text : Option (List ℕ) → List (List ℕ)
signature_change_text None = []
signature_change_text (Some ws) = map word_digits ws

signature_first : (s : Option (List ℕ)) → lines_of_signature s ≡ (codes "signature" ++ 32 ∷ signature_tail s) ∷ signature_change_text s
signature_first None = refl
signature_first (Some ws) = refl

pub next_one : (n : ℕ) (row : Row) (p q : List ℕ) → end_words row.ending ≡ p ++ q → (r : Row) → Agrees n row (suc zero) r
    → NextAgrees n row (take (suc zero) (row_lines n row)) p r
next_one n row p q is r k = record {
  name = k.name;
  next = end_words r.ending;
  more = steps_change_text r.steps ∷ console_change_text r.console ∷ last_lines r;
  lines = k.lines ∙ ap (λ (t : List (List ℕ)). job_words n row.name ∷ t)
      (sym (ap (λ (t : List (List ℕ)). drop (suc zero) t) k.lines));
  alike = end_alike row.ending r.ending p q is;
}

pub next_two : (n : ℕ) (row : Row) (p q : List ℕ) → steps_change_text row.steps ≡ p ++ q → (r : Row)
    → Agrees n row (suc (suc zero)) r → NextAgrees n row (take (suc (suc zero)) (row_lines n row)) p r
next_two n row p q is r k = record {
  name = k.name;
  next = steps_change_text r.steps;
  more = console_change_text r.console ∷ last_lines r;
  lines = k.lines ∙ ap (λ (t : List (List ℕ)). job_words n row.name ∷ end_words row.ending ∷ t)
      (sym (ap (λ (t : List (List ℕ)). drop (suc (suc zero)) t) k.lines));
  alike = same_word (codes "steps") (decimal row.steps) (decimal r.steps) p q is;
}

pub next_three : (n : ℕ) (row : Row) (p q : List ℕ) → console_change_text row.console ≡ p ++ q → (r : Row)
    → Agrees n row (suc (suc (suc zero))) r → NextAgrees n row (take (suc (suc (suc zero))) (row_lines n row)) p r
next_three n row p q is r k = record {
  name = k.name;
  next = console_change_text r.console;
  more = last_lines r;
  lines = k.lines ∙ ap (λ (t : List (List ℕ)). job_words n row.name ∷ end_words row.ending ∷ steps_change_text row.steps ∷ t)
      (sym (ap (λ (t : List (List ℕ)). drop (suc (suc (suc zero))) t) k.lines));
  alike = same_word (codes "console") (dash_if_empty (encode_lower row.console)) (dash_if_empty (encode_lower r.console)) p q is;
}

pub next_four : (n : ℕ) (row : Row) (p q : List ℕ) → get_or (last_lines row) zero [] ≡ p ++ q → (r : Row)
    → Agrees n row (suc (suc (suc (suc zero)))) r
    → NextAgrees n row (take (suc (suc (suc (suc zero)))) (row_lines n row)) p r
next_four n row p q is r k = record {
  name = k.name;
  next = codes "signature" ++ 32 ∷ signature_tail r.signature;
  more = signature_change_text r.signature ++ verdict_change_text r.verdict ∷ [];
  lines = k.lines ∙ ap (λ (t : List (List ℕ)). job_words n row.name ∷ end_words row.ending ∷ steps_change_text row.steps
      ∷ console_change_text row.console ∷ t)
      (sym (ap (λ (t : List (List ℕ)). drop (suc (suc (suc (suc zero)))) t) k.lines)
      ∙ ap (λ (t : List (List ℕ)). t ++ verdict_change_text r.verdict ∷ []) (signature_first r.signature));
  alike = same_word (codes "signature") (signature_tail row.signature) (signature_tail r.signature) p q
      (sym (ap (λ (t : List (List ℕ)). get_or (t ++ verdict_change_text row.verdict ∷ []) zero []) (signature_first row.signature))
      ∙ is);
}

-- ---- a line with nothing behind it

line_alone : (b : ℕ) (p : List ℕ) → lacks 10 (b ∷ p) ≡ true → lines (b ∷ p) ≡ (b ∷ p) ∷ []
unfolding lines
line_alone b [] h =
    let parts = and_parts (not (b == 10)) (lacks 10 []) h in
    ap (λ (t : Bool). cond t ([] ∷ lines []) (onto_first b (lines []))) (not-true (b == 10) parts.0)
line_alone b (c ∷ p) h =
    let parts = and_parts (not (b == 10)) (lacks 10 (c ∷ p)) h in
    ap (λ (t : Bool). cond t ([] ∷ lines (c ∷ p)) (onto_first b (lines (c ∷ p)))) (not-true (b == 10) parts.0)
    ∙ ap (onto_first b) (line_alone c p parts.1)

pub says_alone : (b : ℕ) (p : List ℕ) (g : ReaderStateView) → lacks 10 (b ∷ p) ≡ true → says (b ∷ p) g ≡ with_line (b ∷ p) g
unfolding with_lines
says_alone b p g h = ap (λ (ls : List (List ℕ)). with_lines ls g) (line_alone b p h)

-- ---- the verdict

and_no : (t : Bool) → (t && false) ≡ false
and_no true = refl
and_no false = refl

-- a line that begins with v is the verdict, once all words are there
verdict_read : (p : List ℕ) (g : ReaderStateView) → (length g.words == g.count) ≡ true
    → with_line (118 ∷ p) (record g { stage = stage.Words })
    ≡ with_finished_row (verdict_of_line (118 ∷ p)) (record g { stage = stage.Words })
unfolding with_line after_word_or_verdict_line are_hex_digits
verdict_read p g full =
    let here : ReaderStateView = record g { stage = stage.Words } in
    let row = with_finished_row (verdict_of_line (118 ∷ p)) here in
    let word : ReaderStateView = record here { words = g.words ++ hex_word (118 ∷ p) ∷ [] } in
    ap (λ (t : Bool). cond (t && nat_lt (length g.words) g.count) word
    (cond (length g.words == g.count) row (with_stage_done here))) (and_no (nat_lt 0 (length (118 ∷ p))))
    ∙ ap (λ (t : Bool). cond t row (with_stage_done here)) full

abbrev all_words : ℕ → Row → ReaderStateView → ReaderStateView
all_words n row g = record g {
  number = n;
  name = row.name;
  is_in_row = true;
  ending = row.ending;
  steps = row.steps;
  console = row.console;
  has_signature = is_some row.signature;
  count = length (words_or_nil row.signature);
  words = words_or_nil row.signature;
  stage = stage.Words;
}

signature_read : (n : ℕ) (row : Row) (w : List ℕ) (g : ReaderStateView) → IsValidRow row → n < 2 ^ 32 → length g.rows < max_jobs
    → says (joined (job_words n row.name ∷ end_words row.ending ∷ steps_change_text row.steps ∷ console_change_text row.console
    ∷ lines_of_signature row.signature) ++ w) (record g { stage = stage.BetweenRows })
    ≡ says w (all_words n row g)
signature_read n row w g is small few =
    four_lines n row (lines_of_signature row.signature) w g is small few
    ∙ ap (λ (t : List ℕ). says (t ++ w) (after_console n row g)) (joined_signature row.signature)
    ∙ signature_says row.signature w (after_console n row g) is.signature

closed_row_is : (n : ℕ) (row : Row) (p q : List ℕ) (v : Verdict) (g : ReaderStateView) → verdict_change_text row.verdict ≡ p ++ q
    → HasRow g.numbers g.rows n (NextAgrees n row (job_words n row.name ∷ end_words row.ending ∷ steps_change_text row.steps
    ∷ console_change_text row.console ∷ lines_of_signature row.signature) p)
    (with_last_row_finished (with_finished_row v (all_words n row g)))
unfolding with_last_row_finished with_finished_row state_between_rows unfinished_row
closed_row_is n row p q v g is = record {
  row = unfinished_row v (all_words n row g);
  more_numbers = [];
  more_rows = [];
  numbers_are = refl;
  rows_are = refl;
  knows = record {
    name = refl;
    next = verdict_change_text v;
    more = [];
    lines = ap (λ (t : Option (List ℕ)). job_words n row.name ∷ end_words row.ending ∷ steps_change_text row.steps
        ∷ console_change_text row.console ∷ (lines_of_signature t ++ verdict_change_text v ∷ [])) (same_signature row.signature);
    alike = same_word (codes "verdict") (verdict_name row.verdict) (verdict_name v) p q is;
  };
}

-- a beginning of the verdict's line
pub next_verdict : (n : ℕ) (row : Row) (b : ℕ) (p q : List ℕ) (g : ReaderStateView) → IsValidRow row → n < 2 ^ 32
    → length g.rows < max_jobs → lacks 10 (b ∷ p) ≡ true → verdict_change_text row.verdict ≡ (b ∷ p) ++ q
    → HasRow g.numbers g.rows n (NextAgrees n row (job_words n row.name ∷ end_words row.ending ∷ steps_change_text row.steps
    ∷ console_change_text row.console ∷ lines_of_signature row.signature) (b ∷ p))
    (with_last_row_finished (says (joined (job_words n row.name ∷ end_words row.ending ∷ steps_change_text row.steps
    ∷ console_change_text row.console ∷ lines_of_signature row.signature) ++ b ∷ p) (record g { stage = stage.BetweenRows })))
next_verdict n row b p q g is small few plain begins =
    let first : 118 ≡ b = ap (λ (t : List ℕ). get_or t 0 0) begins in
    let v = verdict_of_line (118 ∷ p) in
    let all = all_words n row g in
    let read : says (b ∷ p) all ≡ with_finished_row v all =
    says_alone b p all plain ∙ ap (λ (c : ℕ). with_line (c ∷ p) all) (sym first)
    ∙ verdict_read p all (same_length (length (words_or_nil row.signature))) in
    subst (λ (f : ReaderStateView). HasRow g.numbers g.rows n (NextAgrees n row (job_words n row.name ∷ end_words row.ending
    ∷ steps_change_text row.steps ∷ console_change_text row.console ∷ lines_of_signature row.signature) (b ∷ p)) (with_last_row_finished f))
    (sym (signature_read n row (b ∷ p) g is small few ∙ read)) (closed_row_is n row (b ∷ p) q v g begins)

-- ---- a word

word_read : (l : List ℕ) (g : ReaderStateView) → is_hex_word l ≡ true → length g.words < g.count
    → with_line l (record g { stage = stage.Words }) ≡ record g { words = g.words ++ hex_word l ∷ []; stage = stage.Words }
unfolding with_line after_word_or_verdict_line
word_read l g hex more =
    let here : ReaderStateView = record g { stage = stage.Words } in
    let word : ReaderStateView = record here { words = g.words ++ hex_word l ∷ [] } in
    let row = with_finished_row (verdict_of_line l) here in
    let other : ReaderStateView = cond ((slice_index l 0 == 118) && (length g.words == g.count)) row (with_stage_done here) in
    let room : nat_lt (length g.words) g.count ≡ true = grind (arith, nat_tests) in
    ap (λ (t : Bool). cond (t && nat_lt (length g.words) g.count) word other) hex
    ∙ ap (λ (t : Bool). cond t word other) room

-- a beginning of a word's digits
first_of_word : (w b : ℕ) (p q : List ℕ) → word_digits w ≡ (b ∷ p) ++ q → take (suc (length p)) (word_digits w) ≡ b ∷ p
first_of_word w b p q is =
    ap (λ (t : List ℕ). take (suc (length p)) t) is
    ∙ take_past (b ∷ p) q (suc (length p)) zero (omega arith) ∙ append-nil (b ∷ p)

begun_word : (w b : ℕ) (p q : List ℕ) → w < 2 ^ 32 → word_digits w ≡ (b ∷ p) ++ q
    → AlikeLine (b ∷ p) (word_digits (hex_word (b ∷ p)))
begun_word w b p q small is =
    let taken = first_of_word w b p q is in
    let P : List ℕ → Type 0 = λ t. (z : List ℕ) × (word_digits (hex_word t) ≡ t ++ z) in
    inl (subst P taken (cut_word_digits w (length p) small))

word_is_hex : (w b : ℕ) (p q : List ℕ) → word_digits w ≡ (b ∷ p) ++ q → is_hex_word (b ∷ p) ≡ true
word_is_hex w b p q is =
    let some : nat_lt 0 (length (b ∷ p)) ≡ true = grind (arith, nat_tests) in
    and_from (nat_lt 0 (length (b ∷ p))) (are_hex_digits (b ∷ p)) some
    (subst (λ (t : List ℕ). are_hex_digits t ≡ true) (first_of_word w b p q is)
    (digits_taken (suc (length p)) (word_digits w) (all_digits w)))

word_lines : (n count : ℕ) (ws : List ℕ) (h : ℕ) (row : Row) (p : List ℕ) (g : ReaderStateView) → AlikeLine p (word_digits h) → (r : Row)
    → KnowsLines (count_words count ∷ map word_digits (ws ++ h ∷ [])) (after_console n row g) r
    → NextAgrees n row (job_words n row.name ∷ end_words row.ending ∷ steps_change_text row.steps
    ∷ console_change_text row.console ∷ count_words count ∷ map word_digits ws) p r
unfolding agrees_four
word_lines n count ws h row p g alike r k =
    let last = verdict_change_text r.verdict ∷ [] in
    let ls = count_words count ∷ map word_digits ws in
    let d = word_digits h in
    record {
      name = k.name;
      next = d;
      more = k.more ++ last;
      lines = (agrees_four n row g r (k.name, k.ending, k.steps, k.console)).lines
          ∙ ap (λ (t : List (List ℕ)). job_words n row.name ∷ end_words row.ending ∷ steps_change_text row.steps
          ∷ console_change_text row.console ∷ t)
          (ap (λ (t : List (List ℕ)). t ++ last) (k.signature
          ∙ ap (λ (t : List (List ℕ)). (count_words count ∷ t) ++ k.more) (map-append word_digits ws (h ∷ []))
          ∙ append_assoc ls (d ∷ []) k.more)
          ∙ append_assoc ls (d ∷ k.more) last);
      alike = alike;
    }

pub next_word : (n : ℕ) (row : Row) (ws : List ℕ) (i : ℕ) (b : ℕ) (p q : List ℕ) (g : ReaderStateView) → IsValidRow row → n < 2 ^ 32
    → length g.rows < max_jobs → lacks 10 (b ∷ p) ≡ true → row.signature ≡ Some ws → i < length ws
    → get_or ws i 0 < 2 ^ 32 → word_digits (get_or ws i 0) ≡ (b ∷ p) ++ q
    → HasRow g.numbers g.rows n (NextAgrees n row (job_words n row.name ∷ end_words row.ending ∷ steps_change_text row.steps
    ∷ console_change_text row.console ∷ count_words (length ws) ∷ map word_digits (take i ws)) (b ∷ p))
    (with_last_row_finished (says (joined (job_words n row.name ∷ end_words row.ending ∷ steps_change_text row.steps
    ∷ console_change_text row.console ∷ count_words (length ws) ∷ map word_digits (take i ws)) ++ b ∷ p)
    (record g { stage = stage.BetweenRows })))
unfolding with_lines
next_word n row ws i b p q g is small few plain has_signature within fits begins =
    let count = length ws in
    let some = take i ws in
    let h = hex_word (b ∷ p) in
    let before = after_console n row g in
    let words : IsValidSignature (Some ws) = subst (λ (s : Option (List ℕ)). IsValidSignature s) has_signature is.signature in
    let most : length ws ≤ max_words = words.0 in
    let fewer : length some < count = let e = length-taken i ws (omega arith) in omega arith in
    let now : ReaderStateView = record before { has_signature = true; count = count; words = some; stage = stage.Words } in
    let next : ReaderStateView = record before { has_signature = true; count = count; words = some ++ h ∷ [] } in
    let longer = length-append some (h ∷ []) in
    let ls = count_words count ∷ map word_digits some in
    let read = four_lines n row ls (b ∷ p) g is small few
    ∙ signed_says count some (b ∷ p) before most (omega arith) (all-taken IsWord i ws words.1)
    ∙ says_alone b p now plain
    ∙ word_read (b ∷ p) now (word_is_hex (get_or ws i 0) b p q begins) fewer in
    let K = NextAgrees n row (job_words n row.name ∷ end_words row.ending ∷ steps_change_text row.steps
    ∷ console_change_text row.console ∷ ls) (b ∷ p) in
    subst (λ (f : ReaderStateView). HasRow g.numbers g.rows n K (with_last_row_finished f)) (sym read)
    (with_less g.numbers g.rows n (KnowsWords next) K (with_last_row_finished (record next { is_in_row = true; stage = stage.Words }))
    (words_keep [] next (omega arith))
    (λ r k. word_lines n count some h row (b ∷ p) g (begun_word (get_or ws i 0) b p q fits begins) r
    (signed_lines count (some ++ h ∷ []) before r k)))
