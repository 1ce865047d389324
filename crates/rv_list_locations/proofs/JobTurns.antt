-- What is behind a value, and the steps of a list, a turn at a time.
use Rattle.std.proofs.Common.{◌≡◌, ◌∙◌, ap, arith, refl, sym, ℕ, zero, suc, ◌-◌, ◌<◌, ◌≤◌, List, [], ◌∷◌, ◌++◌}
use Rattle.std.proofs.Common.{true, false, Option, Some, None, drop, inl, inr, length}
use Rattle.std.proofs.Common.{append_assoc, map, ne_eqb, slice_index}
use Rattle.std.specs.Prelude.{◌==◌, ◌&&◌}
use Rattle.std.proofs.lemmas.Bool.{cases_Bool, false_from_ne_true, false≢true}
use Rattle.std.proofs.lemmas.Bool.Decides.{nat_tests}
use lib.Utf8.{encode}
use Rattle.std.specs.Borrow.{Bor}
use Rattle.std.specs.Prelude.{◌+◌, MatchOption, unwrap_or}
use Rattle.std.specs.Str.Pattern.{HasCharAt}
use Rattle.toml_parser.specs.Lexical.{first, skip_blank}
use Rattle.std.specs.Prelude.{Result, Ok, Err}
use Rattle.std.specs.Result.{IsErrAnd}
use Rattle.toml.specs.Parse.{skip_bom}
use Rattle.toml_parser.specs.declared.error.ParseError.{ParseError}
use Rattle.toml_parser.specs.declared.error.ParseError.TheVariants.{OutOfMemory}
use Rattle.std.proofs.lemmas.List.{map-append}
use Rattle.rv_list_locations.specs.Steps.{UnlessOutOfMemory, texts_of_references}
use Rattle.rv_list_locations.specs.declared.scan.ScanState.{ScanState}
use Rattle.rv_list_locations.specs.JobLocations.{after_brackets, after_word_bytes, after_token, after_word, depth_after}
use Rattle.rv_list_locations.specs.JobLocations.{is_in_word, job_texts_from, step}

-- ---- words

pub letters_more : (text : List ℕ) → is_in_word (first text) (slice_index text 1) ≡ true →
    after_word_bytes text ≡ after_word_bytes (drop 1 text)
letters_more [] is = absurd (false≢true is)
letters_more (byte ∷ rest) is = rw is refl

letters_end : (text : List ℕ) → is_in_word (first text) (slice_index text 1) ≡ false → after_word_bytes text ≡ text
letters_end [] is = refl
letters_end (byte ∷ rest) is = rw is refl

-- letters were passed over
pub word_ends : (text rest : List ℕ) → after_word_bytes rest ≡ after_word_bytes text →
    is_in_word (first rest) (slice_index rest 1) ≡ false → (length rest ≡ length text → ⊥) →
    after_word text ≡ Some rest
unfolding after_word
word_ends text rest same ended moved =
    let is : after_word_bytes text ≡ rest = sym same ∙ letters_end rest ended in
    elim (cases_Bool (is_in_word (first text) (slice_index text 1))) [
      | inl some ↦ rw some (ap Some is)
      | inr none ↦ absurd (moved (ap length (sym is ∙ letters_end text none)))
    ]

pub word_is_none : (text : List ℕ) → is_in_word (first text) (slice_index text 1) ≡ false → after_word text ≡ None
unfolding after_word
word_is_none text none = rw none refl

-- ---- brackets

pub brackets_none : (m depth : ℕ) (text : List ℕ) → after_token text ≡ None → after_brackets m depth text ≡ None
unfolding after_brackets
brackets_none zero depth text none = refl
brackets_none (suc m) depth text none = rw none refl

pub brackets_end : (m depth : ℕ) (text rest : List ℕ) → 0 < m → after_token text ≡ Some rest →
    depth_after depth (first text) ≡ 0 → after_brackets m depth text ≡ Some rest
unfolding after_brackets
brackets_end zero depth text rest some token closed = absurd (omega arith)
brackets_end (suc m) depth text rest some token closed = rw (token, closed) refl

pub brackets_more : (m depth : ℕ) (text rest : List ℕ) → 0 < m → after_token text ≡ Some rest →
    (depth_after depth (first text) == 0) ≡ false →
    after_brackets m depth text ≡ after_brackets (m - 1) (depth_after depth (first text)) (skip_blank rest)
unfolding after_brackets
brackets_more zero depth text rest some token more = absurd (omega arith)
brackets_more (suc m) depth text rest some token more =
    let less : suc m - 1 ≡ m = omega arith in
    rw (token, more, less) refl

-- a byte opens one bracket at most
pub depth_after-le : (depth byte : ℕ) → depth_after depth byte ≤ depth + 1
depth_after-le depth byte = grind (arith, nat_tests)

-- ---- steps

pub jobs_end : (m : ℕ) (next : ScanState) (text : List ℕ) → length text ≡ 0 → job_texts_from m next text ≡ []
unfolding job_texts_from
jobs_end zero next text none = refl
jobs_end (suc m) next text none = rw none refl

pub jobs_refused : (m : ℕ) (next : ScanState) (text : List ℕ) → step next text ≡ None → job_texts_from m next text ≡ []
unfolding job_texts_from
jobs_refused zero next text none = refl
jobs_refused (suc m) next text none =
    elim (cases_Bool (length text == 0)) [
      | inl empty ↦ rw empty refl
      | inr some ↦ rw (some, none) refl
    ]

pub jobs_job : (m : ℕ) (next what : ScanState) (text rest : List ℕ) → 0 < m → 0 < length text →
    step next text ≡ Some (true, what, rest) → job_texts_from m next text ≡ text ∷ job_texts_from (m - 1) what rest
unfolding job_texts_from
jobs_job zero next what text rest some more is = absurd (omega arith)
jobs_job (suc m) next what text rest some more is =
    let less : suc m - 1 ≡ m = omega arith in
    rw (ne_eqb (length text) 0 (omega arith), is, less) refl

pub jobs_other : (m : ℕ) (next what : ScanState) (text rest : List ℕ) → 0 < m → 0 < length text →
    step next text ≡ Some (false, what, rest) → job_texts_from m next text ≡ job_texts_from (m - 1) what rest
unfolding job_texts_from
jobs_other zero next what text rest some more is = absurd (omega arith)
jobs_other (suc m) next what text rest some more is =
    let less : suc m - 1 ≡ m = omega arith in
    rw (ne_eqb (length text) 0 (omega arith), is, less) refl

-- the line of one more job
pub noted_more : (line : List ℕ → ℕ) (here : List ℕ) (jobs : List (List ℕ)) (n : ℕ) (before after : List ℕ) →
    after ≡ before ++ n ∷ [] → n ≡ line here → before ++ map line (here ∷ jobs) ≡ after ++ map line jobs
noted_more line here jobs n before after noted is = rw (noted, is) (sym (append_assoc before (line here ∷ []) (map line jobs)))

-- the text from one more job on
pub texts_more : (here : Bor (List ℕ)) (jobs : List (List ℕ)) (before after : List (Bor (List ℕ))) →
    after ≡ before ++ here ∷ [] → texts_of_references before ++ (here.now ∷ jobs) ≡ texts_of_references after ++ jobs
texts_more here jobs before after noted =
    rw (noted, map-append (λ (text : Bor (List ℕ)). text.now) before (here ∷ []))
    (sym (append_assoc (texts_of_references before) (here.now ∷ []) jobs))

-- ---- the byte order mark

pub marked_text : (text rest : List ℕ) → text ≡ encode 0xFEFF ++ rest → skip_bom text ≡ rest
unfolding encode skip_bom
marked_text text rest is = rw is refl

pub unmarked_text : (text : List ℕ) → ((rest : List ℕ) → text ≡ encode 0xFEFF ++ rest → ⊥) → skip_bom text ≡ text
unfolding encode skip_bom
unmarked_text [] none = refl
unmarked_text (a ∷ []) none =
    let other : ((a == 0xEF && 0 == 0xBB) && 0 == 0xBF) ≡ false = grind (arith, nat_tests) in rw other refl
unmarked_text (a ∷ b ∷ []) none =
    let other : ((a == 0xEF && b == 0xBB) && 0 == 0xBF) ≡ false = grind (arith, nat_tests) in rw other refl
unmarked_text (a ∷ b ∷ c ∷ rest) none =
    let other : ((a == 0xEF && b == 0xBB) && c == 0xBF) ≡ false =
    false_from_ne_true _ (λ is. none rest (same_three a b c rest is)) in
    rw other refl
  where
    same_three : (a b c : ℕ) (rest : List ℕ) → ((a == 0xEF && b == 0xBB) && c == 0xBF) ≡ true →
        a ∷ b ∷ c ∷ rest ≡ 0xEF ∷ 0xBB ∷ 0xBF ∷ rest
    same_three a b c rest is =
        let one : a ≡ 0xEF = grind (arith, nat_tests) in
        let two : b ≡ 0xBB = grind (arith, nat_tests) in
        let three : c ≡ 0xBF = grind (arith, nat_tests) in
        rw (one, two, three) refl

-- what a text is without its mark, if it has one
pub without_mark : (text : Bor (List ℕ)) (found : Option (Bor (List ℕ))) →
    MatchOption found ((rest : List ℕ) → text.now ≡ encode 0xFEFF ++ rest → ⊥)
    (λ rest. (n : ℕ) × HasCharAt 0xFEFF text.now 0 n × (rest.now ≡ drop n text.now)
    × (length rest.now + n ≡ length text.now)) →
    (unwrap_or found text).now ≡ skip_bom text.now
without_mark text None none = sym (unmarked_text text.now none)
without_mark text (Some rest) found =
    sym (marked_text text.now rest.now (found.1.split ∙ ap (λ bytes. encode 0xFEFF ++ bytes) (sym found.2)))

-- ---- what holds unless memory ran out

-- at an error that a `?` passes on
pub unless_err : {A : Type 0} (r : Result A ParseError) (P : Type 0) (e : ParseError) (Q : ParseError → Type 0) →
    IsErrAnd r Q → ((y : ParseError) → Q y → y ≡ e) → ((e ≡ OutOfMemory → ⊥) → P) → UnlessOutOfMemory r P
unless_err (Ok a) P e Q h same holds = absurd h
unless_err (Err y) P e Q h same holds = λ other. holds (λ m. other (same y h ∙ m))
