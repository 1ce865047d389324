-- From the images that were read to the table, or to the line that is refused.
use Rattle.std.proofs.Common.{◌≡◌, ◌∙◌, ◌==◌, ◌+◌, ◌<◌, ◌≤◌, ◌^◌, ℕ, Bool, true, false, not, cond, List, [], ◌∷◌, ◌++◌, None, length, drop, take, get_or, refl, sym, ap, subst, append_assoc, append-nil, length-append, length-drop, arith, inl, inr}
use Rattle.std.proofs.lemmas.List.{drop-drop, take_at, take_more, drop_all}
use Rattle.std.proofs.lemmas.Bool.{not-false, not-true, both_ways}
use Rattle.std.specs.Cmp.Lexicographic.{bytes_decides}
use Rattle.std.specs.Str.{bytes_eq}
use Rattle.std.specs.List.{flat_map}
use Rattle.rv_count_tables.specs.declared.table.ImageCounts.{ImageCounts}
use Rattle.rv_count_tables.specs.declared.table.CountTable.{CountTable}
use Rattle.rv_count_tables.specs.declared.read_lines.ParsedImages.{ParsedImages}
use Rattle.rv_count_tables.specs.declared.read.ReadError.{ReadError}
use Rattle.rv_count_tables.specs.declared.read.ReadError.TheVariants.{Line, Truncated}
use Rattle.rv_count_tables.specs.Lines.{lacks, line_feed_count, whole_line}
use Rattle.rv_count_tables.specs.Table.{IsValidTable}
use Rattle.rv_count_tables.specs.Text.{line, first_line, image_text, last_line, table_text}
use Rattle.rv_count_tables.specs.ReadSteps.{before_first_image, after_images, last_digest, IsNotAnEntry, IsNotAnImage, AreParsedImages}
use Rattle.rv_count_tables.specs.Read.{IsFirstError, IsFirstInvalidLine, read_error_at}
use Rattle.rv_count_tables.proofs.Pieces.{cases_line, line_at, no_line}
use Rattle.rv_count_tables.proofs.Reading.{feeds-append}
use Rattle.rv_count_tables.proofs.ReadingLines.{whole_split, whole_within}
use Rattle.rv_count_tables.proofs.Refusing.{AreImages, text_so_far, text_of, invalid_line, refused_first, refused_end, cut_first, cut_behind}
use Rattle.rv_count_tables.proofs.Refusing.{no_table_refused, no_table_cut, no_table_cut_first}

-- ---- the number of a line

pub feeds_more : (xs : List ℕ) (i : ℕ) → i < length xs
    → line_feed_count (take (i + 1) xs) ≡ line_feed_count (take i xs) + line_feed_count (get_or xs i 0 ∷ [])
feeds_more xs i h = ap line_feed_count (take_more xs i 0 h) ∙ feeds-append (take i xs) (get_or xs i 0 ∷ [])

pub one_feed : (b : ℕ) → b ≡ 10 → line_feed_count (b ∷ []) ≡ 1
one_feed b h = let t : (b == 10) ≡ true = grind arith in ap (λ (s : Bool). cond s (0 + 1) 0) t

pub no_feed : (b : ℕ) → (b ≡ 10 → ⊥) → line_feed_count (b ∷ []) ≡ 0
no_feed b h = let t : (b == 10) ≡ false = grind arith in ap (λ (s : Bool). cond s (0 + 1) 0) t

-- ---- the place behind the images

pub record IsBehind (bytes : List ℕ) (images : List ImageCounts) (place : ℕ) : Type 0 where
  pub within : place ≤ length bytes
  pub all : bytes ≡ text_so_far images ++ drop place bytes
  pub front : take place bytes ≡ text_so_far images
  pub are : AreImages images
  pub entry : IsNotAnEntry (after_images before_first_image images) (whole_line (drop place bytes))
  pub image : IsNotAnImage (last_digest None images) (whole_line (drop place bytes))

pub behind_images : (bytes : List ℕ) (read : ParsedImages) (place : ℕ) → whole_line bytes ≡ first_line
    → AreParsedImages (drop 11 bytes) read → length read.images < 2 ^ 64 → place ≡ 11 + read.length
    → IsBehind bytes read.images place
behind_images bytes read place first h few e =
    let rest : drop read.length (drop 11 bytes) ≡ drop place bytes =
    drop-drop read.length 11 bytes ∙ ap (λ (n : ℕ). drop n bytes) (sym e) in
    let head : bytes ≡ first_line ++ drop 11 bytes =
    whole_split bytes ∙ ap (λ (s : List ℕ). s ++ drop (length s) bytes) first in
    let all : bytes ≡ text_so_far read.images ++ drop place bytes =
    head ∙ ap (λ (s : List ℕ). first_line ++ s) (h.lines ∙ ap (λ (s : List ℕ). flat_map image_text read.images ++ s) rest)
    ∙ sym (append_assoc first_line (flat_map image_text read.images) (drop place bytes)) in
    let within : place ≤ length bytes =
    (let l = length-drop 11 bytes in
    let t = ap (λ (s : List ℕ). length s) head in
    let p = length-append first_line (drop 11 bytes) in
    let w = h.within in
    omega (arith, l, t, p, w, e)) in
    let long : length (text_so_far read.images) ≡ place =
    (let t = ap (λ (s : List ℕ). length s) all in
    let p = length-append (text_so_far read.images) (drop place bytes) in
    let l = length-drop place bytes in
    omega (arith, t, p, l, within)) in record {
      within = within;
      all = all;
      front = ap (take place) all ∙ take_at (text_so_far read.images) (drop place bytes) place long;
      are = record { each = h.images; rising = h.rising; few = few };
      entry = subst (λ (s : List ℕ). IsNotAnEntry (after_images before_first_image read.images) (whole_line s)) rest h.entry;
      image = subst (λ (s : List ℕ). IsNotAnImage (last_digest None read.images) (whole_line s)) rest h.image;
    }

pub end_within : (bytes : List ℕ) (images : List ImageCounts) (place : ℕ) → IsBehind bytes images place
    → place + length (whole_line (drop place bytes)) ≤ length bytes
end_within bytes images place h =
    let k = h.within in
    let w = whole_within (drop place bytes) in
    let l = length-drop place bytes in
    omega (arith, k, w, l)

pub same_first : (a b bytes : List ℕ) (t : Bool) → t ≡ not (bytes_eq a b) → t ≡ false → a ≡ whole_line bytes
    → b ≡ first_line → whole_line bytes ≡ first_line
same_first a b bytes t is equal w f =
    sym w ∙ (bytes_decides a b).0 (not-false (bytes_eq a b) (sym is ∙ equal)) ∙ f

pub other_first : (a b bytes : List ℕ) (t : Bool) → t ≡ not (bytes_eq a b) → t ≡ true → a ≡ whole_line bytes
    → b ≡ first_line → whole_line bytes ≡ first_line → ⊥
other_first a b bytes t is differs w f e =
    both_ways _ (not-true (bytes_eq a b) (sym is ∙ differs)) ((bytes_decides a b).1 (w ∙ e ∙ sym f))

-- ---- what is told at a place

told_cut : (place : ℕ) (bytes : List ℕ) → lacks 10 (drop place bytes) ≡ true → read_error_at place bytes ≡ Truncated
told_cut place bytes h =
    ap (λ (s : List ℕ). cond (length s == 0) Truncated (Line (line_feed_count (take place bytes) + 1)))
    (no_line (drop place bytes) h)

not_none : (n : ℕ) → 0 < n → (n == 0) ≡ false
not_none n h = grind arith

told_line : (place : ℕ) (bytes front rest : List ℕ) → lacks 10 front ≡ true → drop place bytes ≡ front ++ 10 ∷ rest
    → read_error_at place bytes ≡ Line (line_feed_count (take place bytes) + 1)
told_line place bytes front rest h e =
    let w : whole_line (drop place bytes) ≡ front ++ 10 ∷ [] = ap whole_line e ∙ line_at front rest h in
    let l = length-append front (10 ∷ []) in
    ap (λ (s : List ℕ). cond (length s == 0) Truncated (Line (line_feed_count (take place bytes) + 1))) w
    ∙ ap (λ (t : Bool). cond t Truncated (Line (line_feed_count (take place bytes) + 1)))
    (not_none (length (front ++ 10 ∷ [])) (omega (arith, l)))

told_refused : (bytes : List ℕ) (images : List ImageCounts) (place : ℕ) (front rest : List ℕ) → IsBehind bytes images place
    → ((r : ℕ) → r < 2 ^ 64 → whole_line (drop place bytes) ≡ last_line (length images) r → ⊥)
    → lacks 10 front ≡ true → drop place bytes ≡ front ++ 10 ∷ rest
    → IsFirstInvalidLine (line_feed_count (take place bytes) + 1) bytes
told_refused bytes images place front rest h no_last plain e =
    let w : whole_line (drop place bytes) ≡ line front = ap whole_line e ∙ line_at front rest plain in
    invalid_line images front rest bytes (line_feed_count (take place bytes) + 1) h.are plain
    (subst (λ (s : List ℕ). IsNotAnEntry (after_images before_first_image images) s) w h.entry)
    (subst (λ (s : List ℕ). IsNotAnImage (last_digest None images) s) w h.image)
    (λ r small same. no_last r small (w ∙ same))
    (h.all ∙ ap (λ (s : List ℕ). text_so_far images ++ s) e)
    (ap (λ (s : List ℕ). line_feed_count s + 1) h.front)

pub least_behind : (bytes : List ℕ) (images : List ImageCounts) (place : ℕ) → IsBehind bytes images place
    → ((r : ℕ) → r < 2 ^ 64 → whole_line (drop place bytes) ≡ last_line (length images) r → ⊥)
    → IsFirstError (read_error_at place bytes) bytes
least_behind bytes images place h no_last = elim (cases_line (drop place bytes)) [
  | inl cut ↦ subst (λ (e : ReadError). IsFirstError e bytes) (sym (told_cut place bytes cut))
      (cut_behind images (drop place bytes) bytes h.are cut h.all)
  | inr l ↦ subst (λ (e : ReadError). IsFirstError e bytes) (sym (told_line place bytes l.front l.rest l.plain l.all))
      (told_refused bytes images place l.front l.rest h no_last l.plain l.all)
]

pub no_table_behind : (bytes : List ℕ) (images : List ImageCounts) (place : ℕ) → IsBehind bytes images place
    → ((r : ℕ) → r < 2 ^ 64 → whole_line (drop place bytes) ≡ last_line (length images) r → ⊥)
    → (t : CountTable) → IsValidTable t → table_text t ≡ bytes → ⊥
no_table_behind bytes images place h no_last t is e = elim (cases_line (drop place bytes)) [
  | inl cut ↦ no_table_cut images (drop place bytes) bytes h.are cut h.all t is e
  | inr l ↦ no_table_refused (line_feed_count (take place bytes) + 1) bytes
      (told_refused bytes images place l.front l.rest h no_last l.plain l.all) t is e
]

-- ---- the first line

first_told : (bytes front rest : List ℕ) → (whole_line bytes ≡ first_line → ⊥) → lacks 10 front ≡ true
    → bytes ≡ front ++ 10 ∷ rest → IsFirstInvalidLine 1 bytes
first_told bytes front rest other plain e =
    refused_first front rest bytes plain (λ same. other (ap whole_line e ∙ line_at front rest plain ∙ same)) e

pub least_first : (bytes : List ℕ) → (whole_line bytes ≡ first_line → ⊥) → IsFirstError (read_error_at 0 bytes) bytes
least_first bytes other = elim (cases_line bytes) [
  | inl cut ↦ subst (λ (e : ReadError). IsFirstError e bytes) (sym (told_cut 0 bytes cut)) (cut_first bytes cut)
  | inr l ↦ subst (λ (e : ReadError). IsFirstError e bytes) (sym (told_line 0 bytes l.front l.rest l.plain l.all))
      (first_told bytes l.front l.rest other l.plain l.all)
]

pub no_table_first : (bytes : List ℕ) → (whole_line bytes ≡ first_line → ⊥) → (t : CountTable) → IsValidTable t
    → table_text t ≡ bytes → ⊥
no_table_first bytes other t is e = elim (cases_line bytes) [
  | inl cut ↦ no_table_cut_first bytes cut t e
  | inr l ↦ no_table_refused 1 bytes (first_told bytes l.front l.rest other l.plain l.all) t is e
]

-- ---- behind the last line

-- the text as far as the last line, and what stands behind it
pub record IsTold (bytes : List ℕ) (images : List ImageCounts) (runs end : ℕ) : Type 0 where
  pub all : bytes ≡ (text_so_far images ++ last_line (length images) runs) ++ drop end bytes
  pub front : take end bytes ≡ text_so_far images ++ last_line (length images) runs

pub last_told : (bytes : List ℕ) (images : List ImageCounts) (place runs end : ℕ) → IsBehind bytes images place
    → whole_line (drop place bytes) ≡ last_line (length images) runs → end ≡ place + length (whole_line (drop place bytes))
    → IsTold bytes images runs end
last_told bytes images place runs end h is e =
    let text = text_so_far images ++ last_line (length images) runs in
    let w = whole_line (drop place bytes) in
    let rest : drop (length w) (drop place bytes) ≡ drop end bytes =
    drop-drop (length w) place bytes ∙ ap (λ (n : ℕ). drop n bytes) (sym e) in
    let all : bytes ≡ text ++ drop end bytes =
    h.all ∙ ap (λ (s : List ℕ). text_so_far images ++ s) (whole_split (drop place bytes) ∙ (λ i. is i ++ rest i))
    ∙ sym (append_assoc (text_so_far images) (last_line (length images) runs) (drop end bytes)) in
    let long : length text ≡ end =
    (let t = ap (λ (s : List ℕ). length s) all in
    let p = length-append text (drop end bytes) in
    let l = length-drop end bytes in
    let q = length-drop place bytes in
    let s = whole_within (drop place bytes) in
    let k = h.within in
    omega (arith, t, p, l, q, s, k, e)) in record {
      all = all;
      front = ap (take end) all ∙ take_at text (drop end bytes) end long;
    }

pub whole_text : (bytes : List ℕ) (images : List ImageCounts) (runs end : ℕ) → IsTold bytes images runs end
    → end ≡ length bytes → table_text (record { images = images; runs = runs }) ≡ bytes
whole_text bytes images runs end h e =
    let none : drop end bytes ≡ [] = drop_all end bytes (omega arith) in
    text_of images runs ∙ sym (append-nil (text_so_far images ++ last_line (length images) runs))
    ∙ ap (λ (s : List ℕ). (text_so_far images ++ last_line (length images) runs) ++ s) (sym none) ∙ sym h.all

least_of_end : (bytes : List ℕ) (images : List ImageCounts) (runs end : ℕ) (rest : List ℕ) → AreImages images
    → runs < 2 ^ 64 → IsTold bytes images runs end → drop end bytes ≡ rest → 0 < length rest
    → IsFirstInvalidLine (line_feed_count (take end bytes) + 1) bytes
least_of_end bytes images runs end [] are fits h is some = absurd (omega arith)
least_of_end bytes images runs end (b ∷ bs) are fits h is some =
    refused_end images runs b bs bytes (line_feed_count (take end bytes) + 1) are fits
    (h.all ∙ ap (λ (s : List ℕ). (text_so_far images ++ last_line (length images) runs) ++ s) is)
    (ap (λ (s : List ℕ). line_feed_count s + 1) h.front)

pub least_end : (bytes : List ℕ) (images : List ImageCounts) (runs end : ℕ) → AreImages images
    → runs < 2 ^ 64 → IsTold bytes images runs end → end < length bytes
    → IsFirstInvalidLine (line_feed_count (take end bytes) + 1) bytes
least_end bytes images runs end are fits h under =
    least_of_end bytes images runs end (drop end bytes) are fits h refl (let l = length-drop end bytes in omega (arith, l))
