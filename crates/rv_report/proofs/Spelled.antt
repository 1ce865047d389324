-- The lines of a row, and what they say.
use Rattle.std.proofs.Common.{◌≡◌, ◌∙◌, ◌==◌, ◌+◌, ◌/◌, ◌%◌, ◌<◌, ◌≤◌, ◌^◌, ℕ, suc, Bool, true, false, ◌&&◌, not}
use Rattle.std.proofs.Common.{cond, List, [], ◌∷◌, ◌++◌, length, slice_index, take, drop, Option, Some, None, refl, sym}
use Rattle.std.proofs.Common.{ap, arith, append_assoc, append-nil, length-append, subst, inl, inr}
use Rattle.std.specs.Prelude.{codes, is_some, nat_le, nat_lt, if◌then◌else◌}
use Rattle.std.proofs.lemmas.Bool.{and_parts, and_from, cases_eq, false≢true}
use Rattle.std.specs.List.{flat_map, list_all, AllByRecursion}
use Rattle.std.specs.Fmt.{decimal}
use Rattle.hex.specs.Hex.{IsBytes, encode_lower, encode_with, lower_digits}
use Rattle.rv_elf.specs.declared.error.ImageError.TheVariants as image
use Rattle.rv_base.specs.Names.{is_name, is_name_byte}
use Rattle.rv_base.specs.Limits.{is_within}
use Rattle.rv_machine.specs.declared.ending.FaultKind.{FaultKind}
use Rattle.rv_machine.specs.Faults.{fault_name, fault_named}
use Rattle.rv_machine.proofs.Public.{every_fault, fault_named-name}
use Rattle.rv_report.specs.declared.row.Refusal.{Refusal}
use Rattle.rv_report.specs.declared.row.Refusal.TheVariants as refusal
use Rattle.rv_report.specs.declared.row.Row.{Row}
use Rattle.rv_report.specs.declared.row.RowEnd.{RowEnd}
use Rattle.rv_report.specs.declared.row.RowEnd.TheVariants as ending
use Rattle.rv_report.specs.declared.row.Verdict.{Verdict}
use Rattle.rv_report.specs.declared.row.Verdict.TheVariants as verdict
use Rattle.rv_report.specs.Report.{line, word_line, refusal_name, refusal_named, verdict_name, end_line}
use Rattle.rv_text.specs.Numbers.{word_digits}
use Rattle.rv_report.specs.Report.{dash_if_empty, console_line, signature_lines, row_text}
use Rattle.rv_report.specs.declared.lenient_rows.Stage.TheVariants as stage
use Rattle.rv_report.specs.declared.saved.Extent.{Extent}
use Rattle.rv_report.specs.LenientReport.{lines, text_before_byte, text_after_byte, decimal_number, hex_word, are_hex_digits, hex_bytes, name_or_dash}
use Rattle.rv_report.specs.LenientReport.{job_number_of_line, job_name_of_line, fault_or_default, refusal_or_default, fault_ending_of_text, row_ending_of_line, verdict_of_line}
use Rattle.rv_report.specs.LenientReport.{decimal_number_from, ReaderStateView, state_between_rows, with_finished_row, with_stage_done, unfinished_row, after_job_or_last_line, after_end_line}
use Rattle.rv_report.specs.LenientReport.{after_steps_line, after_console_line, after_signature_line, after_word_or_verdict_line, with_line, with_lines}
use Rattle.rv_base.specs.Limits.{max_jobs}
use Rattle.std.proofs.lemmas.Bool.Decides.{nat_tests}
use Rattle.rv_report.specs.Saved.{max_words, IsWord, IsValidEnd, IsValidSignature, IsValidRow}
use Rattle.rv_report.proofs.Pieces.{lacks, lacks-append, lines_at, before_at, after_at, first_is_other}
use Rattle.rv_report.proofs.Words.{lacks-decimal, lacks-encode, lacks-digits, number_of-decimal, word_of-digits}
use Rattle.rv_report.proofs.Words.{is_word-digits, bytes_of-encode}

-- what a text says, after what was gathered
abbrev pub says : List ℕ → ReaderStateView → ReaderStateView
says text g = with_lines (lines text) g

pub says_line : (xs rest : List ℕ) (g : ReaderStateView) → lacks 10 xs ≡ true
    → says (line xs ++ rest) g ≡ says rest (with_line xs g)
unfolding with_lines
says_line xs rest g h =
    ap (λ (text : List ℕ). says text g) (append_assoc xs (10 ∷ []) rest)
    ∙ ap (λ (ls : List (List ℕ)). with_lines ls g) (lines_at xs rest h)

-- ---- names

lacks-fault_name : (kind : FaultKind) → (lacks 10 (fault_name kind) && lacks 32 (fault_name kind)) ≡ true
lacks-fault_name kind = every_fault (λ each. lacks 10 (fault_name each) && lacks 32 (fault_name each)) refl kind

pub refusal_named-name : (why : Refusal) → (why ≡ refusal.Image image.OutOfMemory → ⊥)
    → refusal_named (refusal_name why) ≡ Some why
refusal_named-name refusal.ImageUnreadable h = refl
refusal_named-name refusal.ImageTooLong h = refl
refusal_named-name refusal.ReferenceUnreadable h = refl
refusal_named-name refusal.ReferenceTooLong h = refl
refusal_named-name (refusal.Image image.ShortHeader) h = refl
refusal_named-name (refusal.Image image.BadMagic) h = refl
refusal_named-name (refusal.Image image.Not32Bit) h = refl
refusal_named-name (refusal.Image image.NotLittleEndian) h = refl
refusal_named-name (refusal.Image image.BadVersion) h = refl
refusal_named-name (refusal.Image image.NotExecutable) h = refl
refusal_named-name (refusal.Image image.NotRiscv) h = refl
refusal_named-name (refusal.Image image.ProgramTable) h = refl
refusal_named-name (refusal.Image image.Dynamic) h = refl
refusal_named-name (refusal.Image image.SegmentSizes) h = refl
refusal_named-name (refusal.Image image.SegmentFile) h = refl
refusal_named-name (refusal.Image image.NoSegment) h = refl
refusal_named-name (refusal.Image image.EntryOdd) h = refl
refusal_named-name (refusal.Image image.EntryAlign) h = refl
refusal_named-name (refusal.Image image.SegmentMap) h = refl
refusal_named-name (refusal.Image image.SegmentOverlap) h = refl
refusal_named-name (refusal.Image image.SectionTable) h = refl
refusal_named-name (refusal.Image image.NoSymbols) h = refl
refusal_named-name (refusal.Image image.SymbolTable) h = refl
refusal_named-name (refusal.Image image.StringTable) h = refl
refusal_named-name (refusal.Image image.NoBegin) h = refl
refusal_named-name (refusal.Image image.NoEnd) h = refl
refusal_named-name (refusal.Image image.SignatureRange) h = refl
refusal_named-name (refusal.Image image.OutOfMemory) h = absurd (h refl)

lacks-refusal_name : (why : Refusal) → lacks 10 (refusal_name why) ≡ true
lacks-refusal_name refusal.ImageUnreadable = refl
lacks-refusal_name refusal.ImageTooLong = refl
lacks-refusal_name refusal.ReferenceUnreadable = refl
lacks-refusal_name refusal.ReferenceTooLong = refl
lacks-refusal_name (refusal.Image image.ShortHeader) = refl
lacks-refusal_name (refusal.Image image.BadMagic) = refl
lacks-refusal_name (refusal.Image image.Not32Bit) = refl
lacks-refusal_name (refusal.Image image.NotLittleEndian) = refl
lacks-refusal_name (refusal.Image image.BadVersion) = refl
lacks-refusal_name (refusal.Image image.NotExecutable) = refl
lacks-refusal_name (refusal.Image image.NotRiscv) = refl
lacks-refusal_name (refusal.Image image.ProgramTable) = refl
lacks-refusal_name (refusal.Image image.Dynamic) = refl
lacks-refusal_name (refusal.Image image.SegmentSizes) = refl
lacks-refusal_name (refusal.Image image.SegmentFile) = refl
lacks-refusal_name (refusal.Image image.NoSegment) = refl
lacks-refusal_name (refusal.Image image.EntryOdd) = refl
lacks-refusal_name (refusal.Image image.EntryAlign) = refl
lacks-refusal_name (refusal.Image image.SegmentMap) = refl
lacks-refusal_name (refusal.Image image.SegmentOverlap) = refl
lacks-refusal_name (refusal.Image image.SectionTable) = refl
lacks-refusal_name (refusal.Image image.NoSymbols) = refl
lacks-refusal_name (refusal.Image image.SymbolTable) = refl
lacks-refusal_name (refusal.Image image.StringTable) = refl
lacks-refusal_name (refusal.Image image.NoBegin) = refl
lacks-refusal_name (refusal.Image image.NoEnd) = refl
lacks-refusal_name (refusal.Image image.SignatureRange) = refl
lacks-refusal_name (refusal.Image image.OutOfMemory) = refl

-- ---- the line of the name

name_byte_is_no_feed : (b : ℕ) → is_name_byte b ≡ true → not (b == 10) ≡ true
unfolding is_name_byte
name_byte_is_no_feed b h =
    elim (cases_eq b 10) [
      | inl e ↦ let no : is_name_byte 10 ≡ true = subst (λ (n : ℕ). is_name_byte n ≡ true) e h in absurd (false≢true no)
      | inr other ↦ grind arith
    ]

lacks_feed : (name : List ℕ) → list_all is_name_byte name ≡ true → lacks 10 name ≡ true
lacks_feed [] h = refl
lacks_feed (b ∷ bs) h =
    let parts = and_parts (is_name_byte b) (list_all is_name_byte bs) h in
    and_from (not (b == 10)) (lacks 10 bs) (name_byte_is_no_feed b parts.0) (lacks_feed bs parts.1)

pub lacks-name : (name : List ℕ) → is_name name ≡ true → lacks 10 name ≡ true
unfolding is_name
lacks-name name h = lacks_feed name (and_parts (is_within 1 64 (length name)) (list_all is_name_byte name) h).1

pub lacks-job : (n : ℕ) (name : List ℕ) → n < 2 ^ 64 → is_name name ≡ true
    → lacks 10 (codes "job " ++ decimal n ++ codes " " ++ name) ≡ true
lacks-job n name h is =
    lacks-append 10 (decimal n ++ codes " ") name
    (lacks-append 10 (decimal n) (codes " ") (lacks-decimal 10 n (omega arith) h) refl) (lacks-name name is)

pub same_name : (name : List ℕ) → is_name name ≡ true → name_or_dash name ≡ name
same_name name h = ap (λ (t : Bool). cond t name (codes "-")) h

job_name : (n : ℕ) (name : List ℕ) → n < 2 ^ 64 → is_name name ≡ true
    → job_name_of_line (codes "job " ++ decimal n ++ codes " " ++ name) ≡ name
unfolding job_name_of_line
job_name n name h is =
    ap (λ (text : List ℕ). name_or_dash (text_after_byte 32 text)) (append_assoc (decimal n) (codes " ") name)
    ∙ ap name_or_dash (after_at 32 (decimal n) name (lacks-decimal 32 n (omega arith) h)) ∙ same_name name is

job_number : (n : ℕ) (name : List ℕ) → n < 2 ^ 32 → job_number_of_line (codes "job " ++ decimal n ++ codes " " ++ name) ≡ n
job_number n name h =
    ap (λ (text : List ℕ). decimal_number (text_before_byte 32 text)) (append_assoc (decimal n) (codes " ") name)
    ∙ ap decimal_number (before_at 32 (decimal n) name (lacks-decimal 32 n (omega arith) (omega arith)))
    ∙ number_of-decimal n h

pub job_says : (n : ℕ) (name : List ℕ) (g : ReaderStateView) → n < 2 ^ 32 → is_name name ≡ true → length g.rows < max_jobs
    → with_line (codes "job " ++ decimal n ++ codes " " ++ name) (record g { stage = stage.BetweenRows })
    ≡ record g { number = n; name = name; is_in_row = true; stage = stage.Ending }
unfolding with_line after_job_or_last_line
job_says n name g h is few =
    let line = codes "job " ++ decimal n ++ codes " " ++ name in
    let room : nat_lt (length g.rows) max_jobs ≡ true = grind (arith, nat_tests) in
    ap (λ (t : Bool). cond t
    (record g { number = job_number_of_line line; name = job_name_of_line line; is_in_row = true; stage = stage.Ending }) (with_stage_done g)) room
    ∙ ap (λ (t : ℕ). record g {
      number = t;
      name = job_name_of_line (codes "job " ++ decimal n ++ codes " " ++ name);
      is_in_row = true;
      stage = stage.Ending;
    }) (job_number n name h)
    ∙ ap (λ (t : List ℕ). record g { number = n; name = t; is_in_row = true; stage = stage.Ending })
    (job_name n name (omega arith) is)

-- ---- the line of the steps

pub steps_says : (n : ℕ) (g : ReaderStateView) → n < 2 ^ 32 → with_line (codes "steps " ++ decimal n)
    (record g { stage = stage.Steps }) ≡ record g { steps = n; stage = stage.Console }
unfolding with_line after_steps_line
steps_says n g h = ap (λ (t : ℕ). record g { steps = t; stage = stage.Console }) (number_of-decimal n h)

-- ---- the line of the ending

abbrev pub end_words : RowEnd → List ℕ
end_words (ending.Exit code) = codes "end exit " ++ decimal code
end_words (ending.Fault kind pc value) = codes "end fault " ++ fault_name kind ++ codes " pc=" ++ word_digits pc ++
    codes " value=" ++ word_digits value
end_words ending.Budget = codes "end budget"
end_words (ending.Refused why) = codes "end refused " ++ refusal_name why

pub end_is_line : (e : RowEnd) → end_line e ≡ line (end_words e)
unfolding end_line
end_is_line (ending.Exit code) = refl
end_is_line (ending.Fault kind pc value) = refl
end_is_line ending.Budget = refl
end_is_line (ending.Refused why) = refl

pub lacks-end : (e : RowEnd) → IsValidEnd e → lacks 10 (end_words e) ≡ true
lacks-end (ending.Exit code) h = lacks-decimal 10 code (omega arith) (omega arith)
lacks-end (ending.Fault kind pc value) h =
    let name = and_parts (lacks 10 (fault_name kind)) (lacks 32 (fault_name kind)) (lacks-fault_name kind) in
    lacks-append 10 (fault_name kind ++ codes " pc=" ++ word_digits pc ++ codes " value=") (word_digits value)
    (lacks-append 10 (fault_name kind ++ codes " pc=" ++ word_digits pc) (codes " value=")
    (lacks-append 10 (fault_name kind ++ codes " pc=") (word_digits pc)
    (lacks-append 10 (fault_name kind) (codes " pc=") name.0 refl) (lacks-digits pc)) refl) (lacks-digits value)
lacks-end ending.Budget h = refl
lacks-end (ending.Refused why) h = lacks-refusal_name why

fault_regroup : (name pc value : List ℕ) → name ++ codes " pc=" ++ pc ++ codes " value=" ++ value
    ≡ name ++ 32 ∷ (codes "pc=" ++ pc ++ codes " value=" ++ value)
fault_regroup name pc value = simp append_assoc

-- the two words behind the name
abbrev two_words : ℕ → ℕ → List ℕ
two_words pc value = codes "pc=" ++ word_digits pc ++ codes " value=" ++ word_digits value

first_word : (pc value : ℕ) → take 8 (drop 3 (two_words pc value)) ≡ word_digits pc
unfolding word_digits encode_with
first_word pc value = refl

second_word : (pc value : ℕ) → drop 18 (two_words pc value) ≡ word_digits value
unfolding word_digits encode_with
second_word pc value = refl

fault_says : (kind : FaultKind) (pc value : ℕ) → pc < 2 ^ 32 → value < 2 ^ 32
    → fault_ending_of_text (fault_name kind ++ codes " pc=" ++ word_digits pc ++ codes " value=" ++ word_digits value)
    ≡ ending.Fault kind pc value
unfolding fault_ending_of_text
fault_says kind pc value hp hv =
    let name = fault_name kind in
    let plain = (and_parts (lacks 10 name) (lacks 32 name) (lacks-fault_name kind)).1 in
    let words = two_words pc value in
    ap fault_ending_of_text (fault_regroup name (word_digits pc) (word_digits value))
    ∙ ap (λ (t : List ℕ). ending.Fault (fault_or_default (fault_named t))
    (hex_word (take 8 (drop 3 (text_after_byte 32 (name ++ 32 ∷ words))))) (hex_word (drop 18 (text_after_byte 32 (name ++ 32 ∷ words)))))
    (before_at 32 name words plain)
    ∙ ap (λ (t : List ℕ). ending.Fault (fault_or_default (fault_named name)) (hex_word (take 8 (drop 3 t)))
    (hex_word (drop 18 t))) (after_at 32 name words plain)
    ∙ ap (λ (k : Option FaultKind). ending.Fault (fault_or_default k) (hex_word (take 8 (drop 3 words)))
    (hex_word (drop 18 words))) (fault_named-name kind)
    ∙ ap (λ (w : List ℕ). ending.Fault kind (hex_word w) (hex_word (drop 18 words))) (first_word pc value)
    ∙ ap (λ (w : List ℕ). ending.Fault kind (hex_word (word_digits pc)) (hex_word w)) (second_word pc value)
    ∙ ap (λ (w : ℕ). ending.Fault kind w (hex_word (word_digits value))) (word_of-digits pc hp)
    ∙ ap (λ (w : ℕ). ending.Fault kind pc w) (word_of-digits value hv)

pub end_says : (e : RowEnd) (g : ReaderStateView) → IsValidEnd e → with_line (end_words e) (record g { stage = stage.Ending })
    ≡ record g { ending = e; stage = stage.Steps }
unfolding with_line after_end_line row_ending_of_line
end_says (ending.Exit code) g h = ap (λ (n : ℕ). record g { ending = ending.Exit n; stage = stage.Steps })
    (number_of-decimal code h)
end_says (ending.Fault kind pc value) g h = ap (λ (e : RowEnd). record g { ending = e; stage = stage.Steps })
    (fault_says kind pc value h.0 h.1)
end_says ending.Budget g h = refl
end_says (ending.Refused why) g h =
    ap (λ (r : Option Refusal). record g { ending = ending.Refused (refusal_or_default r); stage = stage.Steps })
    (refusal_named-name why h)

-- ---- the console's line

not_empty : (n : ℕ) → (suc n == 0) ≡ false
not_empty n = grind arith

no_dash : (b : ℕ) (bs : List ℕ) → dash_if_empty (b ∷ bs) ≡ b ∷ bs
no_dash b bs = ap (λ (t : Bool). cond t (codes "-") (b ∷ bs)) (not_empty (length bs))

dash_of_encode : (b : ℕ) (bs : List ℕ) → dash_if_empty (encode_lower (b ∷ bs)) ≡ encode_lower (b ∷ bs)
unfolding encode_with
dash_of_encode b bs = no_dash (slice_index lower_digits (b / 16)) (slice_index lower_digits (b % 16) ∷ encode_lower bs)

bytes_of-shown : (bytes : List ℕ) → IsBytes bytes → hex_bytes (dash_if_empty (encode_lower bytes)) ≡ bytes
unfolding hex_bytes encode_with
bytes_of-shown [] h = refl
bytes_of-shown (b ∷ bs) h = ap hex_bytes (dash_of_encode b bs) ∙ bytes_of-encode (b ∷ bs) h

pub lacks-shown : (bytes : List ℕ) → IsBytes bytes → lacks 10 (dash_if_empty (encode_lower bytes)) ≡ true
unfolding encode_with
lacks-shown [] h = refl
lacks-shown (b ∷ bs) h = ap (lacks 10) (dash_of_encode b bs) ∙ lacks-encode (b ∷ bs) h

console_text_says : (text : List ℕ) (g : ReaderStateView) → with_line (codes "console " ++ text)
    (record g { stage = stage.Console }) ≡ record g { console = hex_bytes text; stage = stage.Signature }
unfolding with_line after_console_line
console_text_says text g = refl

pub console_says : (bytes : List ℕ) (g : ReaderStateView) → IsBytes bytes
    → with_line (codes "console " ++ dash_if_empty (encode_lower bytes)) (record g { stage = stage.Console })
    ≡ record g { console = bytes; stage = stage.Signature }
console_says bytes g h = console_text_says (dash_if_empty (encode_lower bytes)) g
    ∙ ap (λ (t : List ℕ). record g { console = t; stage = stage.Signature }) (bytes_of-shown bytes h)

-- ---- the signature's lines

-- what a line says that is no word
abbrev no_word : List ℕ → ReaderStateView → ReaderStateView
no_word line g =
    if (slice_index line 0 == 118) && (length g.words == g.count) then
    with_finished_row (verdict_of_line line) (record g { stage = stage.Words })
    else with_stage_done g

pub word_says : (w : ℕ) (g : ReaderStateView) → w < 2 ^ 32 → length g.words < g.count
    → with_line (word_digits w) (record g { stage = stage.Words })
    ≡ record g { words = g.words ++ w ∷ []; stage = stage.Words }
unfolding with_line after_word_or_verdict_line
word_says w g h more =
    let room : nat_lt (length g.words) g.count ≡ true = grind arith in
    ap (λ (t : Bool). cond (t && nat_lt (length g.words) g.count)
    (record g { words = g.words ++ hex_word (word_digits w) ∷ []; stage = stage.Words }) (no_word (word_digits w) g))
    (is_word-digits w)
    ∙ ap (λ (t : Bool). cond t (record g { words = g.words ++ hex_word (word_digits w) ∷ []; stage = stage.Words })
    (no_word (word_digits w) g)) room
    ∙ ap (λ (v : ℕ). record g { words = g.words ++ v ∷ []; stage = stage.Words }) (word_of-digits w h)

pub words_say : (ws rest : List ℕ) (g : ReaderStateView) → AllByRecursion IsWord ws → length g.words + length ws ≤ g.count
    → says (flat_map word_line ws ++ rest) (record g { stage = stage.Words })
    ≡ says rest (record g { words = g.words ++ ws; stage = stage.Words })
words_say [] rest g h room = ap (λ (t : List ℕ). says rest (record g { words = t; stage = stage.Words }))
    (sym (append-nil g.words))
words_say (w ∷ ws) rest g h room =
    let longer = length-append g.words (w ∷ []) in
    ap (λ (t : List ℕ). says t (record g { stage = stage.Words }))
    (append_assoc (word_line w) (flat_map word_line ws) rest)
    ∙ says_line (word_digits w) (flat_map word_line ws ++ rest) (record g { stage = stage.Words }) (lacks-digits w)
    ∙ ap (says (flat_map word_line ws ++ rest)) (word_says w g h.0 (omega arith))
    ∙ words_say ws rest (record g { words = g.words ++ w ∷ [] }) h.1 (omega arith)
    ∙ ap (λ (t : List ℕ). says rest (record g { words = t; stage = stage.Words })) (append_assoc g.words (w ∷ []) ws)

abbrev pub words_or_nil : Option (List ℕ) → List ℕ
words_or_nil None = []
words_or_nil (Some words) = words

pub signature_text_says : (text : List ℕ) (g : ReaderStateView) → nat_le (decimal_number text) max_words ≡ true
    → with_line (codes "signature " ++ text) (record g { stage = stage.Signature })
    ≡ record g { has_signature = not (slice_index text 0 == 45); count = decimal_number text; words = []; stage = stage.Words }
unfolding with_line after_signature_line
signature_text_says text g small = ap (λ (t : Bool). cond t (record g {
  has_signature = not (slice_index text 0 == 45);
  count = decimal_number text;
  words = [];
  stage = stage.Words;
}) (with_stage_done g)) small

pub signature_says : (s : Option (List ℕ)) (rest : List ℕ) (g : ReaderStateView) → IsValidSignature s
    → says (signature_lines s ++ rest) (record g { stage = stage.Signature })
    ≡ says rest (record g {
      has_signature = is_some s;
      count = length (words_or_nil s);
      words = words_or_nil s;
      stage =
          stage.Words;
    })
unfolding signature_lines decimal_number_from
signature_says None rest g h =
    says_line (codes "signature -") rest (record g { stage = stage.Signature }) refl
    ∙ ap (says rest) (signature_text_says (codes "-") g refl)
signature_says (Some ws) rest g h =
    let n = length ws in
    let few : length ws ≤ max_words = h.0 in
    let value : decimal_number (decimal n) ≡ n = number_of-decimal n (omega arith) in
    let small : nat_le (decimal_number (decimal n)) max_words ≡ true = grind (arith, nat_tests) in
    ap (λ (t : List ℕ). says t (record g { stage = stage.Signature }))
    (append_assoc (line (codes "signature " ++ decimal n)) (flat_map word_line ws) rest)
    ∙ says_line (codes "signature " ++ decimal n) (flat_map word_line ws ++ rest) (record g { stage = stage.Signature })
    (lacks-decimal 10 n (omega arith) (omega arith))
    ∙ ap (says (flat_map word_line ws ++ rest)) (signature_text_says (decimal n) g small)
    ∙ ap (λ (t : Bool). says (flat_map word_line ws ++ rest)
    (record g { has_signature = not t; count = decimal_number (decimal n); words = []; stage = stage.Words }))
    (first_is_other 45 (decimal n) (omega arith) (lacks-decimal 45 n (omega arith) (omega arith)))
    ∙ ap (λ (k : ℕ). says (flat_map word_line ws ++ rest)
    (record g { has_signature = true; count = k; words = []; stage = stage.Words }))
    value
    ∙ words_say ws rest (record g { has_signature = true; count = n; words = [] }) h.1 (omega arith)

-- ---- the verdict's line

pub verdict_says : (v : Verdict) (g : ReaderStateView) → (length g.words == g.count) ≡ true
    → with_line (codes "verdict " ++ verdict_name v) (record g { stage = stage.Words }) ≡ with_finished_row v g
unfolding with_line after_word_or_verdict_line are_hex_digits verdict_of_line with_finished_row unfinished_row
verdict_says verdict.Unasked g full = ap (λ (t : Bool). cond t (with_finished_row verdict.Unasked g) (with_stage_done g)) full
verdict_says verdict.Pass g full = ap (λ (t : Bool). cond t (with_finished_row verdict.Pass g) (with_stage_done g)) full
verdict_says verdict.Fail g full = ap (λ (t : Bool). cond t (with_finished_row verdict.Fail g) (with_stage_done g)) full

pub lacks-verdict : (v : Verdict) → lacks 10 (codes "verdict " ++ verdict_name v) ≡ true
lacks-verdict verdict.Unasked = refl
lacks-verdict verdict.Pass = refl
lacks-verdict verdict.Fail = refl

-- ---- a row's text

pub regroup : (a b c d s v r : List ℕ) → a ++ b ++ c ++ d ++ s ++ v ++ r ≡ a ++ (b ++ (c ++ (d ++ (s ++ (v ++ r)))))
regroup a b c d s v r = simp append_assoc

pub same_signature : (s : Option (List ℕ)) → cond (is_some s) (Some (words_or_nil s)) None ≡ s
same_signature None = refl
same_signature (Some words) = refl

pub same_length : (n : ℕ) → (n == n) ≡ true
same_length n = grind arith

-- what is gathered when all lines of a row but the last are read
abbrev pub up_to_verdict : ℕ → Row → List ℕ → List Row → Extent → ReaderStateView
up_to_verdict n row numbers rows extent = record {
  numbers = numbers;
  rows = rows;
  extent = extent;
  number = n;
  name = row.name;
  ending = row.ending;
  steps = row.steps;
  console = row.console;
  has_signature = is_some row.signature;
  count = length (words_or_nil row.signature);
  words = words_or_nil row.signature;
  is_in_row = true;
  stage = stage.Words;
}

row_is : (n : ℕ) (row : Row) (numbers : List ℕ) (rows : List Row) (extent : Extent)
    → unfinished_row row.verdict (up_to_verdict n row numbers rows extent) ≡ row
unfolding unfinished_row
row_is n row numbers rows extent = ap (λ (s : Option (List ℕ)). record row { signature = s })
    (same_signature row.signature)

closed_is : (n : ℕ) (row : Row) (numbers : List ℕ) (rows : List Row) (extent : Extent)
    → with_finished_row row.verdict (up_to_verdict n row numbers rows extent) ≡ state_between_rows (numbers ++ n ∷ []) (rows ++ row ∷ []) extent
unfolding with_finished_row
closed_is n row numbers rows extent =
    ap (λ (r : Row). state_between_rows (numbers ++ n ∷ []) (rows ++ r ∷ []) extent) (row_is n row numbers rows extent)

-- the row of the job of a number
pub row_says : (place n : ℕ) (row : Row) (rest numbers : List ℕ) (rows : List Row) (extent : Extent) → IsValidRow row
    → place + 1 ≡ n → n < 2 ^ 32 → length rows < max_jobs
    → says (row_text place row ++ rest) (state_between_rows numbers rows extent)
    ≡ says rest (state_between_rows (numbers ++ n ∷ []) (rows ++ row ∷ []) extent)
unfolding row_text console_line state_between_rows
row_says place n row rest numbers rows extent is same small few =
    let j = codes "job " ++ decimal n ++ codes " " ++ row.name in
    let e = end_words row.ending in
    let s = codes "steps " ++ decimal row.steps in
    let c = codes "console " ++ dash_if_empty (encode_lower row.console) in
    let v = codes "verdict " ++ verdict_name row.verdict in
    let t4 = line v ++ rest in
    let t3 = signature_lines row.signature ++ t4 in
    let t2 = line c ++ t3 in
    let t1 = line s ++ t2 in
    let g0 = state_between_rows numbers rows extent in
    let g1 : ReaderStateView = record g0 { number = n; name = row.name; is_in_row = true; stage = stage.Ending } in
    let g2 : ReaderStateView = record g1 { ending = row.ending; stage = stage.Steps } in
    let g3 : ReaderStateView = record g2 { steps = row.steps; stage = stage.Console } in
    let g4 : ReaderStateView = record g3 { console = row.console; stage = stage.Signature } in
    ap (λ (k : ℕ). says ((line (codes "job " ++ decimal k ++ codes " " ++ row.name)
    ++ end_line row.ending ++ line s ++ line c ++ signature_lines row.signature ++ line v) ++ rest) g0) same
    ∙ ap (λ (t : List ℕ). says t g0)
    (regroup (line j) (end_line row.ending) (line s) (line c) (signature_lines row.signature) (line v) rest)
    ∙ says_line j (end_line row.ending ++ t1) g0 (lacks-job n row.name (omega arith) is.name)
    ∙ ap (says (end_line row.ending ++ t1)) (job_says n row.name g0 small is.name few)
    ∙ ap (λ (t : List ℕ). says (t ++ t1) g1) (end_is_line row.ending)
    ∙ says_line e t1 g1 (lacks-end row.ending is.ending)
    ∙ ap (says t1) (end_says row.ending g1 is.ending)
    ∙ says_line s t2 g2 (lacks-decimal 10 row.steps (omega arith) (let h = is.steps in omega arith))
    ∙ ap (says t2) (steps_says row.steps g2 is.steps)
    ∙ says_line c t3 g3 (lacks-shown row.console is.console)
    ∙ ap (says t3) (console_says row.console g3 is.console)
    ∙ signature_says row.signature t4 g4 is.signature
    ∙ says_line v rest (up_to_verdict n row numbers rows extent) (lacks-verdict row.verdict)
    ∙ ap (says rest) (verdict_says row.verdict (up_to_verdict n row numbers rows extent)
    (same_length (length (words_or_nil row.signature)))
    ∙ closed_is n row numbers rows extent)
