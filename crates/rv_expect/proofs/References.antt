-- References: steps of the loop over their lines, and that they are read as they are written.
use Rattle.std.proofs.Common.{◌≡◌, ◌∙◌, ◌+◌, ◌*◌, ◌/◌, ◌%◌, ◌<◌, ◌≤◌, ◌^◌, ℕ, zero, suc, Bool, true, false, cond, List}
use Rattle.std.proofs.Common.{[], ◌∷◌, ◌++◌, length, take, drop, refl, sym, ap, arith, append-nil, append_assoc}
use Rattle.std.proofs.Common.{length-append, ◌-◌, Option, Some, None, Result, Ok, Err}
use Rattle.std.specs.Prelude.{MatchResult, is_err}
use Rattle.std.specs.Int.{w32, from_be_bytes, to_be_bytes}
use Rattle.std.specs.List.{AllByRecursion, flat_map}
use Rattle.std.specs.Str.{bytes_eq}
use Rattle.std.proofs.lemmas.List.{take_at, take_rest}
use Rattle.std.proofs.lemmas.Nat.{from_be_bytes-to_be_bytes_4}
use Rattle.std.proofs.lemmas.Slice.Eq.{bytes_eq-Decides}
use Rattle.hex.specs.Hex.{IsBytes, decode_sized, encode_lower, encode_with}
use Rattle.hex.specs.declared.error.FromHexError.{FromHexError}
use Rattle.hex.proofs.HexLemmas.{decode_of-ok, decode_sized-encode_lower, decode_sized-ok, decode_sized-twice}
use Rattle.rv_rows.specs.Report.{word_line}
use Rattle.rv_rows.specs.Numbers.{word_digits}
use Rattle.rv_expect.specs.Reference.{IsFirstBadLine, IsReferenceOf, IsWord, read_reference, with_reference_line, word_if_line, word_of_line}
use Rattle.rv_expect.specs.declared.reference.Reference.{Reference}
use Rattle.rv_expect.specs.declared.reference.Reference.TheVariants.{Words, BadLine}

-- ---- steps of the loop

-- what the words so far and the lines behind them are
abbrev pub after : List ℕ → Reference → Reference
after words (Words more) = Words (words ++ more)
after words (BadLine line) = BadLine (length words + line)

pub after-none : (r : Reference) → after [] r ≡ r
after-none (Words words) = refl
after-none (BadLine line) = ap BadLine (omega arith)

pub after-more : (words : List ℕ) (word : ℕ) (r : Reference)
    → after (words ++ word ∷ []) r ≡ after words (with_reference_line (Some word) r)
after-more words word (Words more) = ap Words (append_assoc words (word ∷ []) more)
after-more words word (BadLine line) = ap BadLine (omega (arith, length-append words (word ∷ [])))

pub line_first : (text : List ℕ) → 9 ≤ length text
    → read_reference text ≡ with_reference_line (word_of_line (take 9 text)) (read_reference (drop 9 text))
unfolding read_reference
line_first (a ∷ b ∷ c ∷ d ∷ e ∷ f ∷ g ∷ h ∷ feed ∷ rest) long = refl
line_first [] long = absurd (omega arith)
line_first (a ∷ []) long = absurd (omega arith)
line_first (a ∷ b ∷ []) long = absurd (omega arith)
line_first (a ∷ b ∷ c ∷ []) long = absurd (omega arith)
line_first (a ∷ b ∷ c ∷ d ∷ []) long = absurd (omega arith)
line_first (a ∷ b ∷ c ∷ d ∷ e ∷ []) long = absurd (omega arith)
line_first (a ∷ b ∷ c ∷ d ∷ e ∷ f ∷ []) long = absurd (omega arith)
line_first (a ∷ b ∷ c ∷ d ∷ e ∷ f ∷ g ∷ []) long = absurd (omega arith)
line_first (a ∷ b ∷ c ∷ d ∷ e ∷ f ∷ g ∷ h ∷ []) long = absurd (omega arith)

pub short_line : (text : List ℕ) → length text < 9 → 0 < length text → read_reference text ≡ BadLine 1
unfolding read_reference
short_line (a ∷ b ∷ c ∷ d ∷ e ∷ f ∷ g ∷ h ∷ feed ∷ rest) short some = absurd (omega arith)
short_line [] short some = absurd (omega arith)
short_line (a ∷ []) short some = refl
short_line (a ∷ b ∷ []) short some = refl
short_line (a ∷ b ∷ c ∷ []) short some = refl
short_line (a ∷ b ∷ c ∷ d ∷ []) short some = refl
short_line (a ∷ b ∷ c ∷ d ∷ e ∷ []) short some = refl
short_line (a ∷ b ∷ c ∷ d ∷ e ∷ f ∷ []) short some = refl
short_line (a ∷ b ∷ c ∷ d ∷ e ∷ f ∷ g ∷ []) short some = refl
short_line (a ∷ b ∷ c ∷ d ∷ e ∷ f ∷ g ∷ h ∷ []) short some = refl

pub no_lines : (text : List ℕ) → length text ≡ 0 → read_reference text ≡ Words []
unfolding read_reference
no_lines [] none = refl
no_lines (a ∷ rest) none = absurd (omega arith)

pub line_is_bad : (words rest text : List ℕ) → 9 ≤ length rest → None ≡ word_of_line (take 9 rest)
    → after words (read_reference rest) ≡ read_reference text → BadLine (length words + 1) ≡ read_reference text
line_is_bad words rest text long bad h =
    ap (λ (word : Option ℕ). after words (with_reference_line word (read_reference (drop 9 rest)))) bad
    ∙ sym (ap (after words) (line_first rest long)) ∙ h

pub line_is_read : (words more rest text : List ℕ) (word : ℕ) → 9 ≤ length rest → Some word ≡ word_of_line (take 9 rest)
    → more ≡ words ++ word ∷ [] → after words (read_reference rest) ≡ read_reference text
    → after more (read_reference (take (length rest - 9) (drop 9 rest))) ≡ read_reference text
line_is_read words more rest text word long read is h =
    ap (λ (behind : List ℕ). after more (read_reference behind)) (take_rest rest 9)
    ∙ ap (λ (ws : List ℕ). after ws (read_reference (drop 9 rest))) is
    ∙ after-more words word (read_reference (drop 9 rest))
    ∙ ap (λ (w : Option ℕ). after words (with_reference_line w (read_reference (drop 9 rest)))) read
    ∙ sym (ap (after words) (line_first rest long)) ∙ h

pub all_are_read : (words rest text : List ℕ) → length rest ≡ 0 → after words (read_reference rest) ≡ read_reference text
    → Words words ≡ read_reference text
all_are_read words rest text none h =
    ap Words (sym (append-nil words)) ∙ sym (ap (after words) (no_lines rest none)) ∙ h

pub last_is_bad : (words rest text : List ℕ) → length rest < 9 → 0 < length rest
    → after words (read_reference rest) ≡ read_reference text → BadLine (length words + 1) ≡ read_reference text
last_is_bad words rest text short some h = sym (ap (after words) (short_line rest short some)) ∙ h

-- ---- one line

four_fit : (a b c d : ℕ) → a < 256 → b < 256 → c < 256 → d < 256 → IsBytes (a ∷ b ∷ c ∷ d ∷ [])
four_fit a b c d fa fb fc fd zero = fa
four_fit a b c d fa fb fc fd (suc zero) = fb
four_fit a b c d fa fb fc fd (suc (suc zero)) = fc
four_fit a b c d fa fb fc fd (suc (suc (suc zero))) = fd
four_fit a b c d fa fb fc fd (suc (suc (suc (suc n)))) = omega arith

bytes_fit : (w : ℕ) → IsBytes (to_be_bytes w32 w)
bytes_fit w = four_fit (w / 2 ^ 24 % 256) (w / 2 ^ 16 % 256) (w / 2 ^ 8 % 256) (w % 256) (omega arith) (omega arith)
    (omega arith) (omega arith)

nine_bytes : (w : ℕ) → length (word_line w) ≡ 9
unfolding word_digits encode_with
nine_bytes w = refl

digits_first : (w : ℕ) → take 8 (word_line w) ≡ encode_lower (to_be_bytes w32 w)
unfolding word_digits encode_with
digits_first w = refl

word_if_line-same : (line bytes : List ℕ) (w : ℕ) → from_be_bytes w32 bytes ≡ w → line ≡ word_line w
    → word_if_line line (Ok bytes) ≡ Some w
word_if_line-same line bytes w is same =
    let yes : bytes_eq line (word_line w) ≡ true = (bytes_eq-Decides line (word_line w)).1 same in
    ap (λ (word : ℕ). cond (bytes_eq line (word_line word)) (Some word) None) is
    ∙ ap (λ (t : Bool). cond t (Some w) None) yes

pub word_in-word_line : (w : ℕ) → IsWord w → word_of_line (word_line w) ≡ Some w
unfolding word_of_line
word_in-word_line w fits =
    let bytes = to_be_bytes w32 w in
    ap (λ (digits : List ℕ). word_if_line (word_line w) (decode_sized digits 4)) (digits_first w)
    ∙ ap (word_if_line (word_line w)) (decode_sized-encode_lower bytes 4 refl (bytes_fit w))
    ∙ word_if_line-same (word_line w) bytes w (from_be_bytes-to_be_bytes_4 w fits) refl

-- the code's reading of a line: what its digits decode to is written again
pub unread_line : (line out : List ℕ) (r : Result Unit FromHexError) (d : Result (List ℕ) FromHexError)
    → decode_sized (take 8 line) 4 ≡ d → MatchResult d (λ bytes. (r ≡ Ok tt) × (out ≡ bytes)) (λ e. r ≡ Err e)
    → is_err r ≡ true → word_of_line line ≡ None
unfolding word_of_line
unread_line line out r (Ok bytes) is h fails = let e : r ≡ Ok tt = h.0 in cc (ap is_err e)
unread_line line out r (Err e) is h fails = ap (word_if_line line) is

pub read_line : (line out : List ℕ) (r : Result Unit FromHexError) (d : Result (List ℕ) FromHexError)
    → decode_sized (take 8 line) 4 ≡ d → MatchResult d (λ bytes. (r ≡ Ok tt) × (out ≡ bytes)) (λ e. r ≡ Err e)
    → is_err r ≡ false → word_of_line line ≡ word_if_line line (Ok out)
unfolding word_of_line
read_line line out r (Ok bytes) is h reads = ap (word_if_line line) (is ∙ ap Ok (sym h.1))
read_line line out r (Err e) is h reads = let f : r ≡ Err e = h in cc (ap is_err f)

pub same_line : (line out : List ℕ) (word : ℕ) → word ≡ from_be_bytes w32 out → line ≡ word_line word
    → word_if_line line (Ok out) ≡ Some word
same_line line out word is same = word_if_line-same line out word (sym is) same

pub other_line : (line out : List ℕ) (word : ℕ) → word ≡ from_be_bytes w32 out → (line ≡ word_line word → ⊥)
    → word_if_line line (Ok out) ≡ None
other_line line out word is other =
    ap (λ (w : ℕ). cond (bytes_eq line (word_line w)) (Some w) None) (sym is)
    ∙ ap (λ (t : Bool). cond t (Some word) None) (no (bytes_eq line (word_line word)) refl)
  where
    no : (t : Bool) → bytes_eq line (word_line word) ≡ t → bytes_eq line (word_line word) ≡ false
    no true e = absurd (other ((bytes_eq-Decides line (word_line word)).0 e))
    no false e = e

from_four : (bytes : List ℕ) → IsBytes bytes → IsWord (from_be_bytes w32 bytes)
from_four bytes fit =
    let a = fit 0 in
    let b = fit 1 in
    let c = fit 2 in
    let d = fit 3 in
    omega arith

is_line_if : (line bytes : List ℕ) (w : ℕ) (t : Bool) → bytes_eq line (word_line (from_be_bytes w32 bytes)) ≡ t
    → IsBytes bytes → cond t (Some (from_be_bytes w32 bytes)) None ≡ Some w → (line ≡ word_line w) × IsWord w
is_line_if line bytes w true same fit e =
    let is : from_be_bytes w32 bytes ≡ w = cc in
    let lines : line ≡ word_line (from_be_bytes w32 bytes) = (bytes_eq-Decides line _).0 same in
    (lines ∙ ap word_line is, rw (← is) (from_four bytes fit))
is_line_if line bytes w false same fit e = cc

is_line : (line : List ℕ) (w : ℕ) (r : Result (List ℕ) FromHexError) → decode_sized (take 8 line) 4 ≡ r
    → word_if_line line r ≡ Some w → (line ≡ word_line w) × IsWord w
is_line line w (Ok bytes) is e =
    let digits = take 8 line in
    let long : length digits ≡ 2 * 4 = decode_sized-ok digits 4 bytes is in
    let fit = (decode_of-ok digits bytes (sym (decode_sized-twice digits 4 long) ∙ is)).3 in
    is_line_if line bytes w _ refl fit e
is_line line w (Err error) is e = cc

pub word_in-some : (line : List ℕ) (w : ℕ) → word_of_line line ≡ Some w → (line ≡ word_line w) × IsWord w
unfolding word_of_line
word_in-some line w e = is_line line w _ refl e

-- ---- all lines

line_in_front : (w : ℕ) (more : List ℕ)
    → read_reference (word_line w ++ more) ≡ with_reference_line (word_of_line (word_line w)) (read_reference more)
unfolding read_reference word_digits encode_with
line_in_front w more = refl

pub written : (words : List ℕ) → AllByRecursion IsWord words → read_reference (flat_map word_line words) ≡ Words words
unfolding read_reference
written [] fit = refl
written (w ∷ words) fit = line_in_front w (flat_map word_line words)
    ∙ ap (λ (word : Option ℕ). with_reference_line word (read_reference (flat_map word_line words))) (word_in-word_line w fit.0)
    ∙ ap (with_reference_line (Some w)) (written words fit.1)

-- no line of a word stands in front
bad_line : (line rest : List ℕ) (w : ℕ) (more : List ℕ) → length line ≡ 9 → word_of_line line ≡ None → IsWord w
    → line ++ rest ≡ word_line w ++ more → ⊥
bad_line line rest w more nine none fits e =
    let long = nine_bytes w in
    let same : line ≡ word_line w = sym (front line rest nine) ∙ ap (take 9) e ∙ front (word_line w) more long in
    let some : word_of_line line ≡ Some w = ap word_of_line same ∙ word_in-word_line w fits in
    cc
  where
    front : (xs ys : List ℕ) → length xs ≡ 9 → take 9 (xs ++ ys) ≡ xs
    front xs ys h = take_at xs ys 9 h

-- a text that is too short for a line
short_text : (text : List ℕ) → length text < 9 → 0 < length text → IsFirstBadLine 1 text
short_text text short some = record {
  words = [];
  rest = text;
  are_words = tt;
  text = refl;
  line = refl;
  there = λ e. absurd (omega (arith, ap length e));
  has_no_word = λ w more fits e. absurd (omega (arith, ap length e, length-append (word_line w) more, nine_bytes w));
}

with_line_is : (line rest : List ℕ) (w : Option ℕ) (r : Reference) → length line ≡ 9 → word_of_line line ≡ w
    → IsReferenceOf r rest → IsReferenceOf (with_reference_line w r) (line ++ rest)
with_line_is line rest None r nine is h = record {
  words = [];
  rest = line ++ rest;
  are_words = tt;
  text = refl;
  line = refl;
  there = λ e. absurd (omega (arith, ap length e, length-append line rest));
  has_no_word = λ w more fits e. bad_line line rest w more nine is fits e;
}
with_line_is line rest (Some w) (Words words) nine is h =
    let it = word_in-some line w is in
    let same : line ≡ word_line w = it.0 in
    let more : rest ≡ flat_map word_line words = h.1 in
    ((it.1, h.0), cc)
with_line_is line rest (Some w) (BadLine number) nine is h =
    let it = word_in-some line w is in
    let bad : IsFirstBadLine number rest = h in
    let same : line ≡ word_line w = it.0 in
    let text : rest ≡ flat_map word_line bad.words ++ bad.rest = bad.text in
    let split = append_assoc (word_line w) (flat_map word_line bad.words) bad.rest in
    record {
      words = w ∷ bad.words;
      rest = bad.rest;
      are_words = (it.1, bad.are_words);
      text = cc;
      line = omega arith;
      there = bad.there;
      has_no_word = bad.has_no_word;
    }

pub reads : (text : List ℕ) → IsReferenceOf (read_reference text) text
unfolding read_reference
reads [] = (tt, refl)
reads (a ∷ b ∷ c ∷ d ∷ e ∷ f ∷ g ∷ h ∷ feed ∷ rest) =
    with_line_is (a ∷ b ∷ c ∷ d ∷ e ∷ f ∷ g ∷ h ∷ feed ∷ []) rest _ (read_reference rest) refl refl (reads rest)
reads (a ∷ []) = short_text _ (omega arith) (omega arith)
reads (a ∷ b ∷ []) = short_text _ (omega arith) (omega arith)
reads (a ∷ b ∷ c ∷ []) = short_text _ (omega arith) (omega arith)
reads (a ∷ b ∷ c ∷ d ∷ []) = short_text _ (omega arith) (omega arith)
reads (a ∷ b ∷ c ∷ d ∷ e ∷ []) = short_text _ (omega arith) (omega arith)
reads (a ∷ b ∷ c ∷ d ∷ e ∷ f ∷ []) = short_text _ (omega arith) (omega arith)
reads (a ∷ b ∷ c ∷ d ∷ e ∷ f ∷ g ∷ []) = short_text _ (omega arith) (omega arith)
reads (a ∷ b ∷ c ∷ d ∷ e ∷ f ∷ g ∷ h ∷ []) = short_text _ (omega arith) (omega arith)
