-- What is known of a row that was begun stays, whatever lines follow.
use Rattle.std.proofs.Common.{◌≡◌, ◌∙◌, ◌==◌, ◌-◌, ◌<◌, ◌≤◌, ℕ, Bool, true, ◌&&◌, not, List, [], ◌∷◌}
use Rattle.std.proofs.Common.{◌++◌, length, slice_index, drop, Option, Some, None, refl, sym, ap, arith, subst, append_assoc}
use Rattle.std.proofs.Common.{append-nil, length-append}
use Rattle.std.specs.Prelude.{nat_lt, nat_le, replicate, if◌then◌else◌}
use Rattle.std.proofs.lemmas.Bool.{and_parts, eqb-true}
use Rattle.std.proofs.lemmas.Bool.Decides.{nat_tests}
use Rattle.std.proofs.lemmas.List.{length-replicate}
use Rattle.rv_report.specs.declared.row.Row.{Row}
use Rattle.rv_report.specs.declared.row.Verdict.{Verdict}
use Rattle.rv_report.specs.declared.row.Verdict.TheVariants.{Unasked}
use Rattle.rv_report.specs.declared.lenient_rows.Stage.{Stage}
use Rattle.rv_report.specs.declared.lenient_rows.Stage.TheVariants as stage
use Rattle.rv_report.specs.LenientReport.{decimal_number, is_hex_word, hex_word, hex_bytes, row_ending_of_line, verdict_of_line}
use Rattle.rv_report.specs.LenientReport.{ReaderStateView, state_between_rows, with_finished_row, with_stage_done, unfinished_row, padded_words}
use Rattle.rv_report.specs.LenientReport.{after_end_line, after_steps_line, after_console_line, after_signature_line, after_word_or_verdict_line, with_line, with_lines, with_last_row_finished}
use Rattle.rv_report.specs.Saved.{max_words}
use Rattle.rv_report.proofs.Grown.{chosen, chosen_if, at_end, Extends, grown}

-- behind these rows there is one of this number, of which something is known
pub record HasRow (numbers : List ℕ) (rows : List Row) (n : ℕ) (Knows : Row → Type 0) (f : ReaderStateView) : Type 0 where
  pub row : Row
  pub more_numbers : List ℕ
  pub more_rows : List Row
  pub numbers_are : f.numbers ≡ numbers ++ n ∷ more_numbers
  pub rows_are : f.rows ≡ rows ++ row ∷ more_rows
  pub knows : Knows row

-- so it is where more is known
pub with_less : (numbers : List ℕ) (rows : List Row) (n : ℕ) (P Q : Row → Type 0) (f : ReaderStateView) → HasRow numbers rows n P f
    → ((r : Row) → P r → Q r) → HasRow numbers rows n Q f
with_less numbers rows n P Q f h less = record {
  row = h.row;
  more_numbers = h.more_numbers;
  more_rows = h.more_rows;
  numbers_are = h.numbers_are;
  rows_are = h.rows_are;
  knows = less h.row h.knows;
}

-- ---- what the stages know

abbrev pub KnowsName : ReaderStateView → Row → Type 0
KnowsName g r = r.name ≡ g.name

abbrev pub KnowsEnding : ReaderStateView → Row → Type 0
KnowsEnding g r = (r.name ≡ g.name) × (r.ending ≡ g.ending)

abbrev pub KnowsSteps : ReaderStateView → Row → Type 0
KnowsSteps g r = (r.name ≡ g.name) × (r.ending ≡ g.ending) × (r.steps ≡ g.steps)

abbrev pub KnowsConsole : ReaderStateView → Row → Type 0
KnowsConsole g r = (r.name ≡ g.name) × (r.ending ≡ g.ending) × (r.steps ≡ g.steps) × (r.console ≡ g.console)

abbrev pub signature_of : Bool → List ℕ → Option (List ℕ)
signature_of has_signature words = if has_signature then Some words else None

-- the words so far, and so many more that all are there
pub record KnowsWords (g : ReaderStateView) (r : Row) : Type 0 where
  pub name : r.name ≡ g.name
  pub ending : r.ending ≡ g.ending
  pub steps : r.steps ≡ g.steps
  pub console : r.console ≡ g.console
  pub more : List ℕ
  pub signature : r.signature ≡ signature_of g.has_signature (g.words ++ more)
  pub all : length (g.words ++ more) ≡ g.count

abbrev pub Kept : (ReaderStateView → Row → Type 0) → ReaderStateView → ReaderStateView → Type 0
Kept Knows g f = HasRow g.numbers g.rows g.number (Knows g) f

-- ---- the row that isn't whole

closed_row : (s : Stage) (g : ReaderStateView) → length g.words ≤ g.count
    → Kept KnowsWords g (with_last_row_finished (record g { is_in_row = true; stage = s }))
unfolding with_last_row_finished with_finished_row state_between_rows unfinished_row padded_words
closed_row s g within =
    let missing = g.count - length g.words in
    let zeros : List ℕ = replicate missing 0 in
    let a = length-append g.words zeros in
    let b : length zeros ≡ missing = length-replicate missing 0 in
    record {
      row = unfinished_row Unasked (record g { words = g.words ++ zeros });
      more_numbers = [];
      more_rows = [];
      numbers_are = refl;
      rows_are = refl;
      knows = record {
        name = refl;
        ending = refl;
        steps = refl;
        console = refl;
        more = zeros;
        signature = refl;
        all = omega arith;
      };
    }

pub over_lines : (ls : List (List ℕ)) (g : ReaderStateView) → with_lines ls (record g { stage = stage.Done }) ≡ record g { stage = stage.Done }
unfolding with_lines with_line
over_lines [] g = refl
over_lines (l ∷ ls) g = over_lines ls g

over_row : (ls : List (List ℕ)) (g : ReaderStateView) → length g.words ≤ g.count
    → Kept KnowsWords g (at_end ls (record g { is_in_row = true; stage = stage.Done }))
over_row ls g within =
    subst (λ (f : ReaderStateView). Kept KnowsWords g f) (sym (ap with_last_row_finished (over_lines ls (record g { is_in_row = true }))))
    (closed_row stage.Done g within)

-- ---- stage by stage, from the last on

word_less : (g : ReaderStateView) (w : ℕ) (r : Row) → KnowsWords (record g { words = g.words ++ w ∷ [] }) r → KnowsWords g r
word_less g w r k = record {
  name = k.name;
  ending = k.ending;
  steps = k.steps;
  console = k.console;
  more = w ∷ k.more;
  signature = k.signature ∙ ap (λ (t : List ℕ). signature_of g.has_signature t) (append_assoc g.words (w ∷ []) k.more);
  all = sym (ap (λ (t : List ℕ). length t) (append_assoc g.words (w ∷ []) k.more)) ∙ k.all;
}

whole_row : (v : Verdict) (g : ReaderStateView) (f : ReaderStateView) → (length g.words == g.count) ≡ true
    → Extends (g.numbers ++ g.number ∷ []) (g.rows ++ unfinished_row v (record g { is_in_row = true; stage = stage.Words }) ∷ []) f
    → Kept KnowsWords g f
unfolding unfinished_row
whole_row v g f full h =
    let row : Row = unfinished_row v (record g { is_in_row = true; stage = stage.Words }) in
    record {
      row = row;
      more_numbers = h.more_numbers;
      more_rows = h.more_rows;
      numbers_are = h.numbers_are ∙ append_assoc g.numbers (g.number ∷ []) h.more_numbers;
      rows_are = h.rows_are ∙ append_assoc g.rows (row ∷ []) h.more_rows;
      knows = record {
        name = refl;
        ending = refl;
        steps = refl;
        console = refl;
        more = [];
        signature = ap (λ (t : List ℕ). signature_of g.has_signature t) (sym (append-nil g.words));
        all = ap (λ (t : List ℕ). length t) (append-nil g.words) ∙ eqb-true (length g.words) g.count full;
      };
    }

closed_grown : (ls : List (List ℕ)) (v : Verdict) (g : ReaderStateView)
    → Extends (g.numbers ++ g.number ∷ []) (g.rows ++ unfinished_row v g ∷ []) (at_end ls (with_finished_row v g))
unfolding with_finished_row state_between_rows
closed_grown ls v g = grown ls (with_finished_row v g)

pub words_keep : (ls : List (List ℕ)) (g : ReaderStateView) → length g.words ≤ g.count
    → Kept KnowsWords g (at_end ls (record g { is_in_row = true; stage = stage.Words }))
unfolding with_lines with_line after_word_or_verdict_line
words_keep [] g within = closed_row stage.Words g within
words_keep (l ∷ ls) g within =
    let P : ReaderStateView → Type 0 = λ f. Kept KnowsWords g (at_end ls f) in
    let here : ReaderStateView = record g { is_in_row = true; stage = stage.Words } in
    let longer_words = g.words ++ hex_word l ∷ [] in
    let word : ReaderStateView = record here { words = longer_words } in
    let row : ReaderStateView = with_finished_row (verdict_of_line l) here in
    let ended : Bool = (slice_index l 0 == 118) && (length g.words == g.count) in
    let other : ReaderStateView = if ended then row else with_stage_done here in
    chosen_if P (is_hex_word l && nat_lt (length g.words) g.count) word other
    (λ t. let room = (and_parts (is_hex_word l) (nat_lt (length g.words) g.count) t).1 in
    let few : length g.words < g.count = grind (arith, nat_tests) in
    let longer = length-append g.words (hex_word l ∷ []) in
    with_less g.numbers g.rows g.number (KnowsWords (record g { words = longer_words })) (KnowsWords g) (at_end ls word)
    (words_keep ls (record g { words = longer_words }) (omega arith)) (word_less g (hex_word l)))
    (chosen_if P ended row (with_stage_done here)
    (λ t. let full = (and_parts (slice_index l 0 == 118) (length g.words == g.count) t).1 in
    whole_row (verdict_of_line l) g (at_end ls row) full (closed_grown ls (verdict_of_line l) here))
    (over_row ls g within))

words_to_console : (g : ReaderStateView) (r : Row) → KnowsWords g r → KnowsConsole g r
words_to_console g r k = (k.name, k.ending, k.steps, k.console)

pub signature_keep : (ls : List (List ℕ)) (g : ReaderStateView) → length g.words ≤ g.count
    → Kept KnowsConsole g (at_end ls (record g { is_in_row = true; stage = stage.Signature }))
unfolding with_lines with_line after_signature_line
signature_keep [] g within =
    let here : ReaderStateView = record g { is_in_row = true; stage = stage.Signature } in
    with_less g.numbers g.rows g.number (KnowsWords g) (KnowsConsole g) (with_last_row_finished here)
    (closed_row stage.Signature g within) (words_to_console g)
signature_keep (l ∷ ls) g within =
    let here : ReaderStateView = record g { is_in_row = true; stage = stage.Signature } in
    let known : ReaderStateView = record g { has_signature = not (slice_index l 10 == 45); count = decimal_number (drop 10 l); words = [] } in
    let next : ReaderStateView = record known { is_in_row = true; stage = stage.Words } in
    chosen (λ f. Kept KnowsConsole g (at_end ls f))
    (((slice_index l 0 == 115) && (slice_index l 1 == 105)) && nat_le (decimal_number (drop 10 l)) max_words) next
    (with_stage_done here)
    (with_less g.numbers g.rows g.number (KnowsWords known) (KnowsConsole g) (at_end ls next)
    (words_keep ls known (omega arith)) (words_to_console known))
    (with_less g.numbers g.rows g.number (KnowsWords g) (KnowsConsole g) (at_end ls (with_stage_done here))
    (over_row ls g within) (words_to_console g))

pub console_keep : (ls : List (List ℕ)) (g : ReaderStateView) → length g.words ≤ g.count
    → Kept KnowsSteps g (at_end ls (record g { is_in_row = true; stage = stage.Console }))
unfolding with_lines with_line after_console_line
console_keep [] g within =
    let here : ReaderStateView = record g { is_in_row = true; stage = stage.Console } in
    with_less g.numbers g.rows g.number (KnowsWords g) (KnowsSteps g) (with_last_row_finished here)
    (closed_row stage.Console g within) (λ r k. (k.name, k.ending, k.steps))
console_keep (l ∷ ls) g within =
    let here : ReaderStateView = record g { is_in_row = true; stage = stage.Console } in
    let known : ReaderStateView = record g { console = hex_bytes (drop 8 l) } in
    let next : ReaderStateView = record known { is_in_row = true; stage = stage.Signature } in
    chosen (λ f. Kept KnowsSteps g (at_end ls f)) (slice_index l 0 == 99) next (with_stage_done here)
    (with_less g.numbers g.rows g.number (KnowsConsole known) (KnowsSteps g) (at_end ls next)
    (signature_keep ls known within) (λ r k. (k.0, k.1, k.2)))
    (with_less g.numbers g.rows g.number (KnowsWords g) (KnowsSteps g) (at_end ls (with_stage_done here))
    (over_row ls g within) (λ r k. (k.name, k.ending, k.steps)))

pub steps_keep : (ls : List (List ℕ)) (g : ReaderStateView) → length g.words ≤ g.count
    → Kept KnowsEnding g (at_end ls (record g { is_in_row = true; stage = stage.Steps }))
unfolding with_lines with_line after_steps_line
steps_keep [] g within =
    let here : ReaderStateView = record g { is_in_row = true; stage = stage.Steps } in
    with_less g.numbers g.rows g.number (KnowsWords g) (KnowsEnding g) (with_last_row_finished here)
    (closed_row stage.Steps g within) (λ r k. (k.name, k.ending))
steps_keep (l ∷ ls) g within =
    let here : ReaderStateView = record g { is_in_row = true; stage = stage.Steps } in
    let known : ReaderStateView = record g { steps = decimal_number (drop 6 l) } in
    let next : ReaderStateView = record known { is_in_row = true; stage = stage.Console } in
    chosen (λ f. Kept KnowsEnding g (at_end ls f)) ((slice_index l 0 == 115) && (slice_index l 1 == 116)) next
    (with_stage_done here)
    (with_less g.numbers g.rows g.number (KnowsSteps known) (KnowsEnding g) (at_end ls next)
    (console_keep ls known within) (λ r k. (k.0, k.1)))
    (with_less g.numbers g.rows g.number (KnowsWords g) (KnowsEnding g) (at_end ls (with_stage_done here))
    (over_row ls g within) (λ r k. (k.name, k.ending)))

pub ending_keep : (ls : List (List ℕ)) (g : ReaderStateView) → length g.words ≤ g.count
    → Kept KnowsName g (at_end ls (record g { is_in_row = true; stage = stage.Ending }))
unfolding with_lines with_line after_end_line
ending_keep [] g within =
    let here : ReaderStateView = record g { is_in_row = true; stage = stage.Ending } in
    with_less g.numbers g.rows g.number (KnowsWords g) (KnowsName g) (with_last_row_finished here)
    (closed_row stage.Ending g within) (λ r k. k.name)
ending_keep (l ∷ ls) g within =
    let here : ReaderStateView = record g { is_in_row = true; stage = stage.Ending } in
    let known : ReaderStateView = record g { ending = row_ending_of_line l } in
    let next : ReaderStateView = record known { is_in_row = true; stage = stage.Steps } in
    chosen (λ f. Kept KnowsName g (at_end ls f)) (slice_index l 0 == 101) next (with_stage_done here)
    (with_less g.numbers g.rows g.number (KnowsEnding known) (KnowsName g) (at_end ls next)
    (steps_keep ls known within) (λ r k. k.0))
    (with_less g.numbers g.rows g.number (KnowsWords g) (KnowsName g) (at_end ls (with_stage_done here))
    (over_row ls g within) (λ r k. k.name))
