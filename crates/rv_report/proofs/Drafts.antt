-- The rows that a text says can stand in a report.
use Rattle.std.proofs.Common.{◌≡◌, ◌==◌, ◌-◌, ◌<◌, ◌≤◌, ℕ, zero, suc, Bool, true, false, ◌&&◌, not, cond}
use Rattle.std.proofs.Common.{slice_index, take, drop, List, [], ◌∷◌, ◌++◌, length, Option, Some, None, refl, sym}
use Rattle.std.proofs.Common.{ap, arith, subst, inl, inr, length-append}
use Rattle.std.proofs.lemmas.Bool.{cases_Bool, and_parts, false≢true}
use Rattle.std.proofs.lemmas.Bool.Decides.{nat_tests}
use Rattle.std.specs.Prelude.{codes, nat_lt, nat_le, replicate, if◌then◌else◌, Result, Ok, Err}
use Rattle.std.specs.List.{list_all, find, AllByRecursion}
use Rattle.std.specs.Str.{bytes_eq}
use Rattle.hex.specs.Hex.{IsBytes, decode_of}
use Rattle.hex.specs.declared.error.FromHexError.{FromHexError}
use Rattle.hex.proofs.HexLemmas.{decode_of-ok}
use Rattle.rv_elf.specs.declared.error.ImageError.TheVariants as image
use Rattle.rv_base.specs.Names.{is_name, is_name_byte}
use Rattle.rv_base.specs.Limits.{max_jobs}
use Rattle.rv_report.specs.Report.{refusal_name, refusal_named, row_refusals}
use Rattle.rv_report.specs.declared.row.Refusal.{Refusal}
use Rattle.rv_report.specs.declared.row.Refusal.TheVariants as refusal
use Rattle.rv_report.specs.declared.row.Row.{Row}
use Rattle.rv_report.specs.declared.row.RowEnd.{RowEnd}
use Rattle.rv_report.specs.declared.row.RowEnd.TheVariants as ending
use Rattle.rv_report.specs.declared.row.Verdict.{Verdict}
use Rattle.rv_report.specs.declared.row.Verdict.TheVariants.{Unasked}
use Rattle.rv_report.specs.declared.lenient_rows.Stage.{Stage}
use Rattle.rv_report.specs.declared.lenient_rows.Stage.TheVariants as stage
use Rattle.rv_report.specs.declared.saved.Extent.{Extent}
use Rattle.rv_report.specs.declared.saved.Extent.TheVariants.{Whole}
use Rattle.rv_report.specs.LenientReport.{lines, name_or_dash, job_number_of_line, job_name_of_line, text_after_byte, decimal_number_from, decimal_number, with_digit}
use Rattle.rv_report.specs.LenientReport.{hex_number, with_zero_digits, hex_word, is_hex_word, hex_bytes, bytes_if_decoded, refusal_or_default, fault_ending_of_text}
use Rattle.rv_report.specs.LenientReport.{row_ending_of_line, verdict_of_line, part_extent_of_line, ReaderStateView, state_between_rows, with_finished_row, with_stage_done, unfinished_row, padded_words}
use Rattle.rv_report.specs.LenientReport.{after_job_or_last_line, after_end_line, after_steps_line, after_console_line, after_signature_line, after_word_or_verdict_line, with_line_at_stage}
use Rattle.rv_report.specs.LenientReport.{with_line, with_lines, with_last_row_finished, state_after_text, hex_digit_value}
use Rattle.rv_report.specs.Saved.{max_words, IsWord, IsValidEnd, IsValidSignature, IsValidRow}

-- ---- names

dash_is_name : is_name (codes "-") ≡ true
unfolding is_name is_name_byte
dash_is_name = refl

name_or_dash_is_name : (text : List ℕ) → is_name (name_or_dash text) ≡ true
name_or_dash_is_name text =
    let P : List ℕ → Type 0 = λ t. is_name t ≡ true in
    elim (cases_Bool (is_name text)) [
      | inl e ↦ subst P (sym (ap (λ (t : Bool). cond t text (codes "-")) e)) e
      | inr e ↦ subst P (sym (ap (λ (t : Bool). cond t text (codes "-")) e)) dash_is_name
    ]

name_of_is_name : (line : List ℕ) → is_name (job_name_of_line line) ≡ true
unfolding job_name_of_line
name_of_is_name line = name_or_dash_is_name (text_after_byte 32 (drop 4 line))

-- ---- numbers

digit_small : (base value digit : ℕ) → IsWord (with_digit base value digit)
digit_small base value digit = omega arith

number_small : (value : ℕ) (text : List ℕ) → IsWord value → IsWord (decimal_number_from value text)
unfolding decimal_number_from
number_small value [] h = h
number_small value (b ∷ bs) h = number_small (with_digit 10 value (b - 48)) bs (digit_small 10 value (b - 48))

word_on_small : (value : ℕ) (text : List ℕ) → IsWord value → IsWord (hex_number value text)
unfolding hex_number
word_on_small value [] h = h
word_on_small value (b ∷ bs) h =
    word_on_small (with_digit 16 value (hex_digit_value b)) bs (digit_small 16 value (hex_digit_value b))

shifted_small : (count value : ℕ) → IsWord value → IsWord (with_zero_digits count value)
unfolding with_zero_digits
shifted_small zero value h = h
shifted_small (suc count) value h = shifted_small count (with_digit 16 value 0) (digit_small 16 value 0)

word_small : (text : List ℕ) → IsWord (hex_word text)
unfolding hex_word
word_small text =
    shifted_small (8 - length (take 8 text)) (hex_number 0 (take 8 text)) (word_on_small 0 (take 8 text) (omega arith))

-- ---- bytes

decoded_good : (text : List ℕ) (r : Result (List ℕ) FromHexError) → decode_of text ≡ r → IsBytes (bytes_if_decoded r)
decoded_good text (Ok bytes) e = (decode_of-ok text bytes e).3
decoded_good text (Err error) e = λ i. omega arith

bytes_good : (text : List ℕ) → IsBytes (hex_bytes text)
unfolding hex_bytes
bytes_good text = decoded_good text (decode_of text) refl

-- ---- endings

-- a row can be refused so
can : Refusal → Bool
can refusal.ImageUnreadable = true
can refusal.ImageTooLong = true
can refusal.ReferenceUnreadable = true
can refusal.ReferenceTooLong = true
can (refusal.Image image.OutOfMemory) = false
can (refusal.Image _) = true

can_be : (why : Refusal) → can why ≡ true → why ≡ refusal.Image image.OutOfMemory → ⊥
unfolding can
can_be why h e =
    let f : can (refusal.Image image.OutOfMemory) ≡ true = subst (λ (w : Refusal). can w ≡ true) e h in
    false≢true f

found_can : (p : Refusal → Bool) (all : List Refusal) → list_all can all ≡ true
    → can (refusal_or_default (find p all)) ≡ true
unfolding can
found_can p [] h = refl
found_can p (why ∷ all) h =
    let parts = and_parts (can why) (list_all can all) h in
    let Q : Option Refusal → Type 0 = λ o. can (refusal_or_default o) ≡ true in
    elim (cases_Bool (p why)) [
      | inl e ↦ subst Q (sym (ap (λ (t : Bool). cond t (Some why) (find p all)) e)) parts.0
      | inr e ↦ subst Q (sym (ap (λ (t : Bool). cond t (Some why) (find p all)) e)) (found_can p all parts.1)
    ]

refusal_good : (name : List ℕ) → refusal_or_default (refusal_named name) ≡ refusal.Image image.OutOfMemory → ⊥
unfolding can
refusal_good name =
    can_be (refusal_or_default (refusal_named name)) (found_can (λ r. bytes_eq name (refusal_name r)) row_refusals refl)

pick : {X : Type 0} (P : X → Type 0) (b : Bool) (x y : X) → P x → P y → P (if b then x else y)
pick P true x y h k = h
pick P false x y h k = k

pick_if : {X : Type 0} (P : X → Type 0) (b : Bool) (x y : X) → (b ≡ true → P x) → P y → P (if b then x else y)
pick_if P true x y h k = h refl
pick_if P false x y h k = k

fault_good : (text : List ℕ) → IsValidEnd (fault_ending_of_text text)
unfolding fault_ending_of_text
fault_good text =
    (word_small (take 8 (drop 3 (text_after_byte 32 text))), word_small (drop 18 (text_after_byte 32 text)))

ending_good : (line : List ℕ) → IsValidEnd (row_ending_of_line line)
unfolding row_ending_of_line
ending_good line =
    let kind = slice_index line 4 in
    let refused = ending.Refused (refusal_or_default (refusal_named (drop 12 line))) in
    let last : RowEnd = if kind == 98 then ending.Budget else refused in
    let next : RowEnd = if kind == 102 then fault_ending_of_text (drop 10 line) else last in
    pick IsValidEnd (kind == 101) (ending.Exit (decimal_number (drop 9 line))) next (number_small 0 (drop 9 line) (omega arith))
    (pick IsValidEnd (kind == 102) (fault_ending_of_text (drop 10 line)) last (fault_good (drop 10 line))
    (pick IsValidEnd (kind == 98) ending.Budget refused tt (refusal_good (drop 12 line))))

-- ---- what is gathered

abbrev pub AreGood : List Row → Type 0
AreGood rows = AllByRecursion IsValidRow rows

-- the rows can stand in a report, and what is known of the next row can too
abbrev IsDraft : ReaderStateView → Type 0
IsDraft g = AreGood g.rows × (is_name g.name ≡ true) × IsValidEnd g.ending × IsWord g.steps × IsBytes g.console
    × (g.count ≤ max_words) × (length g.words ≤ g.count) × AllByRecursion IsWord g.words

pub all-append : {X : Type 0} (P : X → Type 0) (xs ys : List X) → AllByRecursion P xs → AllByRecursion P ys
    → AllByRecursion P (xs ++ ys)
all-append P [] ys h k = k
all-append P (x ∷ xs) ys h k = (h.0, all-append P xs ys h.1 k)

draft_whole : (numbers : List ℕ) (rows : List Row) (e : Extent) → AreGood rows → IsDraft (state_between_rows numbers rows e)
unfolding state_between_rows
draft_whole numbers rows e h = (h, dash_is_name, tt, omega arith, (λ i. omega arith), omega arith, omega arith, tt)

signature_good : (has_signature : Bool) (words : List ℕ) → length words ≤ max_words → AllByRecursion IsWord words
    → IsValidSignature (if has_signature then Some words else None)
signature_good true words few each = (few, each)
signature_good false words few each = tt

row_good : (v : Verdict) (g : ReaderStateView) → IsDraft g → IsValidRow (unfinished_row v g)
unfolding unfinished_row
row_good v g h =
    let few = h.5 in
    let within = h.6 in
    record {
      name = h.1;
      ending = h.2;
      steps = h.3;
      console = h.4;
      signature = signature_good g.has_signature g.words (omega arith) h.7;
    }

draft_closed : (v : Verdict) (g : ReaderStateView) → IsDraft g → IsDraft (with_finished_row v g)
unfolding with_finished_row
draft_closed v g h =
    draft_whole (g.numbers ++ g.number ∷ []) (g.rows ++ unfinished_row v g ∷ []) g.extent
    (all-append IsValidRow g.rows (unfinished_row v g ∷ []) h.0 (row_good v g h, tt))

draft_between : (line : List ℕ) (g : ReaderStateView) → IsDraft g → IsDraft (after_job_or_last_line line g)
unfolding after_job_or_last_line
draft_between line g h =
    let job : ReaderStateView = record g { number = job_number_of_line line; name = job_name_of_line line; is_in_row = true; stage = stage.Ending } in
    let part : ReaderStateView = with_stage_done (record g { extent = part_extent_of_line line }) in
    let other : ReaderStateView = if slice_index line 0 == 112 then part else with_stage_done g in
    pick IsDraft ((slice_index line 0 == 106) && nat_lt (length g.rows) max_jobs) job other
    (h.0, name_of_is_name line, h.2, h.3, h.4, h.5, h.6, h.7)
    (pick IsDraft (slice_index line 0 == 112) part (with_stage_done g) h h)

draft_ending : (line : List ℕ) (g : ReaderStateView) → IsDraft g → IsDraft (after_end_line line g)
unfolding after_end_line
draft_ending line g h =
    pick IsDraft (slice_index line 0 == 101) (record g { ending = row_ending_of_line line; stage = stage.Steps }) (with_stage_done g)
    (h.0, h.1, ending_good line, h.3, h.4, h.5, h.6, h.7) h

draft_steps : (line : List ℕ) (g : ReaderStateView) → IsDraft g → IsDraft (after_steps_line line g)
unfolding after_steps_line
draft_steps line g h =
    pick IsDraft ((slice_index line 0 == 115) && (slice_index line 1 == 116))
    (record g { steps = decimal_number (drop 6 line); stage = stage.Console }) (with_stage_done g)
    (h.0, h.1, h.2, number_small 0 (drop 6 line) (omega arith), h.4, h.5, h.6, h.7) h

draft_console : (line : List ℕ) (g : ReaderStateView) → IsDraft g → IsDraft (after_console_line line g)
unfolding after_console_line
draft_console line g h =
    pick IsDraft (slice_index line 0 == 99) (record g { console = hex_bytes (drop 8 line); stage = stage.Signature })
    (with_stage_done g) (h.0, h.1, h.2, h.3, bytes_good (drop 8 line), h.5, h.6, h.7) h

draft_signature : (line : List ℕ) (g : ReaderStateView) → IsDraft g → IsDraft (after_signature_line line g)
unfolding after_signature_line
draft_signature line g h =
    let count = decimal_number (drop 10 line) in
    let is : Bool = (slice_index line 0 == 115) && (slice_index line 1 == 105) in
    let is_in_row : ReaderStateView = record g {
      has_signature = not (slice_index line 10 == 45);
      count = count;
      words = [];
      stage = stage.Words;
    } in
    pick_if IsDraft (is && nat_le count max_words) is_in_row (with_stage_done g)
    (λ t. let few = (and_parts is (nat_le count max_words) t).1 in
    let small : count ≤ max_words = grind (arith, nat_tests) in
    (h.0, h.1, h.2, h.3, h.4, small, omega arith, tt)) h

draft_words : (line : List ℕ) (g : ReaderStateView) → IsDraft g → IsDraft (after_word_or_verdict_line line g)
unfolding after_word_or_verdict_line
draft_words line g h =
    let word : ReaderStateView = record g { words = g.words ++ hex_word line ∷ [] } in
    let row : ReaderStateView = with_finished_row (verdict_of_line line) g in
    let ended : Bool = (slice_index line 0 == 118) && (length g.words == g.count) in
    let other : ReaderStateView = if ended then row else with_stage_done g in
    pick_if IsDraft (is_hex_word line && nat_lt (length g.words) g.count) word other
    (λ t. let room = (and_parts (is_hex_word line) (nat_lt (length g.words) g.count) t).1 in
    let more : length g.words < g.count = grind (arith, nat_tests) in
    let longer = length-append g.words (hex_word line ∷ []) in
    let words = all-append IsWord g.words (hex_word line ∷ []) h.7 (word_small line, tt) in
    (h.0, h.1, h.2, h.3, h.4, h.5, omega arith, words))
    (pick IsDraft ended row (with_stage_done g) (draft_closed (verdict_of_line line) g h) h)

draft_at : (s : Stage) (line : List ℕ) (g : ReaderStateView) → IsDraft g → IsDraft (with_line_at_stage s line g)
draft_at stage.BetweenRows line g h = draft_between line g h
draft_at stage.Ending line g h = draft_ending line g h
draft_at stage.Steps line g h = draft_steps line g h
draft_at stage.Console line g h = draft_console line g h
draft_at stage.Signature line g h = draft_signature line g h
draft_at stage.Words line g h = draft_words line g h
draft_at stage.Done line g h = h

draft_lines : (ls : List (List ℕ)) (g : ReaderStateView) → IsDraft g → IsDraft (with_lines ls g)
unfolding with_lines with_line
draft_lines [] g h = h
draft_lines (l ∷ ls) g h = draft_lines ls (with_line_at_stage g.stage l g) (draft_at g.stage l g h)

zeros_good : (count : ℕ) → AllByRecursion IsWord (replicate count 0)
zeros_good zero = tt
zeros_good (suc count) = (omega arith, zeros_good count)

length-zeros : (count : ℕ) → length {A = ℕ} (replicate count 0) ≡ count
length-zeros zero = refl
length-zeros (suc count) = ap suc (length-zeros count)

draft_padded : (g : ReaderStateView) → IsDraft g → IsDraft (record g { words = padded_words g.count g.words })
unfolding padded_words
draft_padded g h =
    let missing = g.count - length g.words in
    let a = length-append g.words (replicate missing 0) in
    let b = length-zeros missing in
    let within = h.6 in
    let words = all-append IsWord g.words (replicate missing 0) h.7 (zeros_good missing) in
    (h.0, h.1, h.2, h.3, h.4, h.5, omega arith, words)

draft_finished : (g : ReaderStateView) → IsDraft g → IsDraft (with_last_row_finished g)
unfolding with_last_row_finished
draft_finished g h =
    let filled : ReaderStateView = record g { words = padded_words g.count g.words } in
    pick IsDraft g.is_in_row (with_finished_row Unasked filled) g (draft_closed Unasked filled (draft_padded g h)) h

pub gathered_good : (text : List ℕ) → AreGood (state_after_text text).rows
unfolding state_after_text
gathered_good text =
    let start : ReaderStateView = state_between_rows [] [] Whole in
    (draft_finished (with_lines (lines text) start) (draft_lines (lines text) start (draft_whole [] [] Whole tt))).0
