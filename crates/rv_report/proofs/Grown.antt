-- Lines only add rows behind those that are gathered.
use Rattle.std.proofs.Common.{◌≡◌, ◌∙◌, ◌==◌, ℕ, Bool, true, false, ◌&&◌, not, List, [], ◌∷◌, ◌++◌}
use Rattle.std.proofs.Common.{length, slice_index, drop, refl, sym, ap, append_assoc, append-nil}
use Rattle.std.specs.Prelude.{nat_lt, nat_le, if◌then◌else◌}
use Rattle.rv_base.specs.Limits.{max_jobs}
use Rattle.rv_report.specs.declared.row.Row.{Row}
use Rattle.rv_report.specs.declared.row.Verdict.{Verdict}
use Rattle.rv_report.specs.declared.row.Verdict.TheVariants.{Unasked}
use Rattle.rv_report.specs.declared.lenient_rows.Stage.{Stage}
use Rattle.rv_report.specs.declared.lenient_rows.Stage.TheVariants as stage
use Rattle.rv_report.specs.LenientReport.{job_number_of_line, job_name_of_line, decimal_number, is_hex_word, hex_word, hex_bytes}
use Rattle.rv_report.specs.LenientReport.{row_ending_of_line, verdict_of_line, part_extent_of_line, ReaderStateView, state_between_rows, with_finished_row, with_stage_done, unfinished_row, padded_words}
use Rattle.rv_report.specs.LenientReport.{after_job_or_last_line, after_end_line, after_steps_line, after_console_line, after_signature_line, after_word_or_verdict_line, with_line_at_stage}
use Rattle.rv_report.specs.LenientReport.{with_line, with_lines, with_last_row_finished}
use Rattle.rv_report.specs.Saved.{max_words}

-- a choice of two, each of which is so
pub chosen : {X : Type 0} (P : X → Type 0) (b : Bool) (x y : X) → P x → P y → P (if b then x else y)
chosen P true x y h k = h
chosen P false x y h k = k

pub chosen_if : {X : Type 0} (P : X → Type 0) (b : Bool) (x y : X) → (b ≡ true → P x) → P y → P (if b then x else y)
chosen_if P true x y h k = h refl
chosen_if P false x y h k = k

-- what is gathered of lines, and the row that isn't whole
abbrev pub at_end : List (List ℕ) → ReaderStateView → ReaderStateView
at_end ls g = with_last_row_finished (with_lines ls g)

-- there are these numbers and rows, and perhaps more behind them
pub record Extends (numbers : List ℕ) (rows : List Row) (f : ReaderStateView) : Type 0 where
  pub more_numbers : List ℕ
  pub more_rows : List Row
  pub numbers_are : f.numbers ≡ numbers ++ more_numbers
  pub rows_are : f.rows ≡ rows ++ more_rows

unchanged : (f : ReaderStateView) → Extends f.numbers f.rows f
unchanged f = record {
  more_numbers = [];
  more_rows = [];
  numbers_are = sym (append-nil f.numbers);
  rows_are = sym (append-nil f.rows);
}

one_more : (v : Verdict) (g : ReaderStateView) → Extends g.numbers g.rows (with_finished_row v g)
unfolding with_finished_row state_between_rows
one_more v g = record {
  more_numbers = g.number ∷ [];
  more_rows = unfinished_row v g ∷ [];
  numbers_are = refl;
  rows_are = refl;
}

onward : (numbers : List ℕ) (rows : List Row) (g f : ReaderStateView) → Extends numbers rows g → Extends g.numbers g.rows f
    → Extends numbers rows f
onward numbers rows g f h k = record {
  more_numbers = h.more_numbers ++ k.more_numbers;
  more_rows = h.more_rows ++ k.more_rows;
  numbers_are = k.numbers_are ∙ ap (λ (t : List ℕ). t ++ k.more_numbers) h.numbers_are
      ∙ append_assoc numbers h.more_numbers k.more_numbers;
  rows_are = k.rows_are ∙ ap (λ (t : List Row). t ++ k.more_rows) h.rows_are ∙ append_assoc rows h.more_rows k.more_rows;
}

grown_at : (s : Stage) (l : List ℕ) (g : ReaderStateView) → Extends g.numbers g.rows (with_line_at_stage s l g)
unfolding after_job_or_last_line after_end_line after_steps_line after_console_line after_signature_line after_word_or_verdict_line
grown_at stage.BetweenRows l g =
    let P : ReaderStateView → Type 0 = λ f. Extends g.numbers g.rows f in
    let job : ReaderStateView = record g { number = job_number_of_line l; name = job_name_of_line l; is_in_row = true; stage = stage.Ending } in
    let part : ReaderStateView = with_stage_done (record g { extent = part_extent_of_line l }) in
    let other : ReaderStateView = if slice_index l 0 == 112 then part else with_stage_done g in
    chosen P ((slice_index l 0 == 106) && nat_lt (length g.rows) max_jobs) job other (unchanged job)
    (chosen P (slice_index l 0 == 112) part (with_stage_done g) (unchanged part) (unchanged (with_stage_done g)))
grown_at stage.Ending l g =
    let next : ReaderStateView = record g { ending = row_ending_of_line l; stage = stage.Steps } in
    chosen (λ f. Extends g.numbers g.rows f) (slice_index l 0 == 101) next (with_stage_done g) (unchanged next)
    (unchanged (with_stage_done g))
grown_at stage.Steps l g =
    let next : ReaderStateView = record g { steps = decimal_number (drop 6 l); stage = stage.Console } in
    chosen (λ f. Extends g.numbers g.rows f) ((slice_index l 0 == 115) && (slice_index l 1 == 116)) next
    (with_stage_done g) (unchanged next) (unchanged (with_stage_done g))
grown_at stage.Console l g =
    let next : ReaderStateView = record g { console = hex_bytes (drop 8 l); stage = stage.Signature } in
    chosen (λ f. Extends g.numbers g.rows f) (slice_index l 0 == 99) next (with_stage_done g) (unchanged next)
    (unchanged (with_stage_done g))
grown_at stage.Signature l g =
    let next : ReaderStateView = record g {
      has_signature = not (slice_index l 10 == 45);
      count = decimal_number (drop 10 l);
      words = [];
      stage = stage.Words;
    } in
    chosen (λ f. Extends g.numbers g.rows f)
    (((slice_index l 0 == 115) && (slice_index l 1 == 105)) && nat_le (decimal_number (drop 10 l)) max_words) next
    (with_stage_done g) (unchanged next) (unchanged (with_stage_done g))
grown_at stage.Words l g =
    let P : ReaderStateView → Type 0 = λ f. Extends g.numbers g.rows f in
    let word : ReaderStateView = record g { words = g.words ++ hex_word l ∷ [] } in
    let row : ReaderStateView = with_finished_row (verdict_of_line l) g in
    let ended : Bool = (slice_index l 0 == 118) && (length g.words == g.count) in
    let other : ReaderStateView = if ended then row else with_stage_done g in
    chosen P (is_hex_word l && nat_lt (length g.words) g.count) word other (unchanged word)
    (chosen P ended row (with_stage_done g) (one_more (verdict_of_line l) g) (unchanged (with_stage_done g)))
grown_at stage.Done l g = unchanged g

finished_grown : (g : ReaderStateView) → Extends g.numbers g.rows (with_last_row_finished g)
unfolding with_last_row_finished
finished_grown g =
    let filled : ReaderStateView = record g { words = padded_words g.count g.words } in
    chosen (λ f. Extends g.numbers g.rows f) g.is_in_row (with_finished_row Unasked filled) g (one_more Unasked filled)
    (unchanged g)

pub grown : (ls : List (List ℕ)) (g : ReaderStateView) → Extends g.numbers g.rows (at_end ls g)
unfolding with_lines with_line
grown [] g = finished_grown g
grown (l ∷ ls) g = onward g.numbers g.rows (with_line_at_stage g.stage l g) (at_end ls (with_line_at_stage g.stage l g))
    (grown_at g.stage l g) (grown ls (with_line_at_stage g.stage l g))
