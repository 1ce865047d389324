-- A line that is refused is the first that no table has there.
use Rattle.std.proofs.Common.{◌≡◌, ◌∙◌, ◌==◌, ◌+◌, ◌-◌, ◌<◌, ◌^◌, ℕ, suc, true, not, List, [], ◌∷◌, ◌++◌, None, length, drop, refl, sym, ap, subst, append_assoc, append-nil, arith, add-one}
use Rattle.std.proofs.lemmas.Bool.{and_parts, false≢true}
use Rattle.std.specs.Prelude.{codes}
use Rattle.std.specs.List.{AllByRecursion, flat_map}
use Rattle.rv_count_tables.specs.declared.table.ImageCounts.{ImageCounts}
use Rattle.rv_count_tables.specs.declared.table.CountTable.{CountTable}
use Rattle.rv_count_tables.specs.Lines.{lacks, line_feed_count, first_lines}
use Rattle.rv_count_tables.specs.Table.{digests_increase_from, IsValidImage, IsValidTable}
use Rattle.rv_count_tables.specs.Text.{line, first_line, image_line, image_text, last_line, table_text}
use Rattle.rv_count_tables.specs.ReadSteps.{Entry, entry_line, entries_of, before_first_image, after_images, last_digest, IsNotAnEntry, IsNotAnImage}
use Rattle.rv_count_tables.proofs.Entries.{image_entries}
use Rattle.rv_count_tables.specs.Read.{IsTablePrefix, IsFirstInvalidLine}
use Rattle.rv_count_tables.proofs.LineTexts.{entry_words, image_words, last_words, entry_is_line, image_is_line, last_is_line, lacks-last}
use Rattle.rv_count_tables.proofs.LineTexts.{entry_is_not_last, image_is_not_last}
use Rattle.rv_count_tables.proofs.Decode.{same_line, first_entry, first_image, IsRest, behind_images, rest_of_table, no_rest}
use Rattle.rv_count_tables.proofs.Reading.{no_lines, lines_up_to, lines_past, lines_begin, feeds-append, no_feeds}

-- a text that ends with a line feed
pub record EndsLine (text : List ℕ) : Type 0 where
  pub front : List ℕ
  pub all : text ≡ front ++ 10 ∷ []

ends-append : (a b : List ℕ) → EndsLine b → EndsLine (a ++ b)
ends-append a b h = record {
  front = a ++ h.front;
  all = ap (λ (s : List ℕ). a ++ s) h.all ∙ sym (append_assoc a h.front (10 ∷ []));
}

ends_front : (a : List ℕ) → EndsLine a → EndsLine (a ++ [])
ends_front a h = subst (λ (s : List ℕ). EndsLine s) (sym (append-nil a)) h

ends_entries : (a : List ℕ) (es : List Entry) → EndsLine a → EndsLine (a ++ flat_map entry_line es)
ends_entries a [] h = ends_front a h
ends_entries a (e ∷ es) h =
    subst (λ (s : List ℕ). EndsLine s) (append_assoc a (entry_line e) (flat_map entry_line es))
    (ends_entries (a ++ entry_line e) es (ends-append a (entry_line e) (record { front = entry_words e; all = entry_is_line e })))

image_ends : (i : ImageCounts) → EndsLine (image_text i)
image_ends i = subst (λ (s : List ℕ). EndsLine s) (sym (image_entries i))
    (ends_entries (image_line i) (entries_of i) (record { front = image_words i; all = image_is_line i }))

ends_images : (a : List ℕ) (is : List ImageCounts) → EndsLine a → EndsLine (a ++ flat_map image_text is)
ends_images a [] h = ends_front a h
ends_images a (i ∷ is) h =
    subst (λ (s : List ℕ). EndsLine s) (append_assoc a (image_text i) (flat_map image_text is))
    (ends_images (a ++ image_text i) is (ends-append a (image_text i) (image_ends i)))

-- the text of a table as far as these images
abbrev pub text_so_far : List ImageCounts → List ℕ
text_so_far images = first_line ++ flat_map image_text images

so_far_ends : (images : List ImageCounts) → EndsLine (text_so_far images)
so_far_ends images = ends_images first_line images (record { front = codes "rvcounts 1"; all = refl })

-- ---- the first lines of a text that goes on

feeds_of_front : (text : List ℕ) (h : EndsLine text) → line_feed_count text ≡ suc (line_feed_count h.front)
feeds_of_front text h =
    let e = ap line_feed_count h.all in
    let f = feeds-append h.front (10 ∷ []) in
    omega (arith, e, f)

pub lines_of_front : (text rest : List ℕ) → EndsLine text → first_lines (line_feed_count text) (text ++ rest) ≡ text
lines_of_front text rest h =
    ap (λ (n : ℕ). first_lines n (text ++ rest)) (feeds_of_front text h)
    ∙ ap (λ (s : List ℕ). first_lines (suc (line_feed_count h.front)) s)
    (ap (λ (s : List ℕ). s ++ rest) h.all ∙ append_assoc h.front (10 ∷ []) rest)
    ∙ lines_up_to h.front rest (line_feed_count h.front) refl ∙ sym h.all

pub lines_of_next : (text xs rest : List ℕ) → lacks 10 xs ≡ true
    → first_lines (line_feed_count text + 1) (text ++ (xs ++ 10 ∷ rest)) ≡ text ++ line xs
lines_of_next text xs rest h =
    let e = feeds-append text xs in
    let f = no_feeds xs h in
    ap (λ (n : ℕ). first_lines n (text ++ (xs ++ 10 ∷ rest))) (add-one (line_feed_count text))
    ∙ ap (λ (s : List ℕ). first_lines (suc (line_feed_count text)) s) (sym (append_assoc text xs (10 ∷ rest)))
    ∙ lines_up_to (text ++ xs) rest (line_feed_count text) (omega (arith, e, f))
    ∙ append_assoc text xs (10 ∷ [])

pub lines_of_more : (text rest : List ℕ) (b : ℕ) → EndsLine text
    → (more : List ℕ) × (first_lines (line_feed_count text + 1) (text ++ b ∷ rest) ≡ text ++ b ∷ more)
lines_of_more text rest b h =
    let k = lines_past h.front rest b (line_feed_count h.front) refl in (
      k.0,
      ap (λ (n : ℕ). first_lines n (text ++ b ∷ rest)) (add-one (line_feed_count text) ∙ ap suc (feeds_of_front text h))
          ∙ ap (λ (s : List ℕ). first_lines (suc (suc (line_feed_count h.front))) s)
          (ap (λ (s : List ℕ). s ++ b ∷ rest) h.all ∙ append_assoc h.front (10 ∷ []) (b ∷ rest))
          ∙ k.1 ∙ sym (append_assoc h.front (10 ∷ []) (b ∷ k.0)) ∙ ap (λ (s : List ℕ). s ++ b ∷ k.0) (sym h.all),
    )

-- ---- what a table begins with

pub record AreImages (images : List ImageCounts) : Type 0 where
  pub each : AllByRecursion IsValidImage images
  pub rising : digests_increase_from None images ≡ true
  pub few : length images < 2 ^ 64

pub is_table : (images : List ImageCounts) (runs : ℕ) → AreImages images → runs < 2 ^ 64
    → IsValidTable (record { images = images; runs = runs })
is_table images runs h fits = record { images = h.each; rising = h.rising; few = h.few; runs = fits }

pub text_of : (images : List ImageCounts) (runs : ℕ)
    → table_text (record { images = images; runs = runs }) ≡ text_so_far images ++ last_line (length images) runs
unfolding table_text
text_of images runs = refl

begins_so_far : (images : List ImageCounts) → AreImages images → IsTablePrefix (text_so_far images)
begins_so_far images h =
    (record { images = images; runs = 0 }, last_line (length images) 0, is_table images 0 h (omega arith), text_of images 0)

none_rise : digests_increase_from None [] ≡ true
unfolding digests_increase_from
none_rise = refl

begins_nothing : IsTablePrefix []
begins_nothing = (
  record { images = []; runs = 0 },
  text_so_far [] ++ last_line 0 0,
  is_table [] 0 (record { each = tt; rising = none_rise; few = omega arith }) (omega arith),
  text_of [] 0,
)

-- what a table has behind these images
behind_so_far : (t : CountTable) (images : List ImageCounts) (s : List ℕ) → IsValidTable t → AreImages images
    → table_text t ≡ text_so_far images ++ s
    → IsRest (0 + length images) (last_digest None images) (after_images before_first_image images) s
unfolding table_text
behind_so_far t images s h k e =
    behind_images images 0 None before_first_image s k.each
    (subst (λ (x : List ℕ). IsRest 0 None before_first_image x) (ap (drop 11) e) (rest_of_table t h))

-- ---- a line that is refused

pub invalid_line : (images : List ImageCounts) (xs rest bytes : List ℕ) (n : ℕ) → AreImages images → lacks 10 xs ≡ true
    → IsNotAnEntry (after_images before_first_image images) (line xs) → IsNotAnImage (last_digest None images) (line xs)
    → ((r : ℕ) → r < 2 ^ 64 → line xs ≡ last_line (length images) r → ⊥)
    → bytes ≡ text_so_far images ++ (xs ++ 10 ∷ rest) → n ≡ line_feed_count (text_so_far images) + 1
    → IsFirstInvalidLine n bytes
invalid_line images xs rest bytes n h plain empty_entry no_image no_last is number =
    let text = text_so_far images in
    let before : first_lines (n - 1) bytes ≡ text =
    (let m : n - 1 ≡ line_feed_count text = omega arith in
    ap (λ (k : ℕ). first_lines k bytes) m ∙ ap (first_lines (line_feed_count text)) is
    ∙ lines_of_front text (xs ++ 10 ∷ rest) (so_far_ends images)) in
    let here : first_lines n bytes ≡ text ++ line xs =
    ap (λ (k : ℕ). first_lines k bytes) number ∙ ap (first_lines (line_feed_count text + 1)) is
    ∙ lines_of_next text xs rest plain in
    record {
      before = subst (λ (s : List ℕ). IsTablePrefix s) (sym before) (begins_so_far images h);
      refused = λ b.
          let e = b.3 ∙ ap (λ (s : List ℕ). s ++ b.1) here ∙ append_assoc text (line xs) b.1 in
          let m : 0 + length images ≡ length images = omega arith in
          no_rest (0 + length images) (last_digest None images) (after_images before_first_image images) xs b.1 plain empty_entry no_image
          (λ r small same. no_last r small (same ∙ ap (λ (k : ℕ). last_line k r) m))
          (behind_so_far b.0 images (line xs ++ b.1) b.2 h e);
    }

first_is_first : (xs : List ℕ) (t : CountTable) (r : List ℕ) → lacks 10 xs ≡ true → table_text t ≡ line xs ++ r
    → line xs ≡ first_line
unfolding table_text
first_is_first xs t r plain e =
    let s = flat_map image_text t.images ++ last_line (length t.images) t.runs in
    sym (same_line (codes "rvcounts 1") xs s r refl plain e).0

-- the first line is another
pub refused_first : (xs rest bytes : List ℕ) → lacks 10 xs ≡ true → (line xs ≡ first_line → ⊥) → bytes ≡ xs ++ 10 ∷ rest
    → IsFirstInvalidLine 1 bytes
refused_first xs rest bytes plain other is =
    let here : first_lines 1 bytes ≡ line xs = ap (first_lines 1) is ∙ lines_of_next [] xs rest plain in
    record {
      before = subst (λ (s : List ℕ). IsTablePrefix s) (sym (no_lines bytes)) begins_nothing;
      refused = λ b. other (first_is_first xs b.0 b.1 plain (b.3 ∙ ap (λ (s : List ℕ). s ++ b.1) here));
    }

-- something stands behind the last line
refused_behind : (n r b : ℕ) (s : List ℕ) (es : List Entry)
    (more : List ImageCounts) (runs : ℕ) → n < 2 ^ 64 → r < 2 ^ 64
    → last_line n r ++ (b ∷ s) ≡ flat_map entry_line es ++ (flat_map image_text more ++ last_line (n + length more) runs)
    → n + length more < 2 ^ 64 → runs < 2 ^ 64 → ⊥
refused_behind n r b s (e ∷ es) more runs hn hr all few fits =
    entry_is_not_last e n r _ (b ∷ s)
    (sym (all ∙ first_entry e es (flat_map image_text more ++ last_line (n + length more) runs)))
refused_behind n r b s [] (i ∷ is) runs hn hr all few fits =
    image_is_not_last i n r _ (b ∷ s) (sym (all ∙ first_image i is (last_line (n + length (i ∷ is)) runs)))
refused_behind n r b s [] [] runs hn hr all few fits =
    let same = same_line (last_words n r) (last_words (n + 0) runs) (b ∷ s) [] (lacks-last n r hn hr)
    (lacks-last (n + 0) runs few fits)
    (ap (λ (x : List ℕ). x ++ (b ∷ s)) (sym (last_is_line n r)) ∙ all ∙ sym (append-nil (last_line (n + 0) runs))
    ∙ ap (λ (x : List ℕ). x ++ []) (last_is_line (n + 0) runs)) in
    let k : suc (length s) ≡ 0 = ap (λ (x : List ℕ). length x) same.1 in
    omega arith

pub refused_end : (images : List ImageCounts) (runs b : ℕ) (rest bytes : List ℕ) (n : ℕ) → AreImages images → runs < 2 ^ 64
    → bytes ≡ (text_so_far images ++ last_line (length images) runs) ++ b ∷ rest
    → n ≡ line_feed_count (text_so_far images ++ last_line (length images) runs) + 1 → IsFirstInvalidLine n bytes
refused_end images runs b rest bytes n h fits is number =
    let text = text_so_far images ++ last_line (length images) runs in
    let ends : EndsLine text = ends-append (text_so_far images) (last_line (length images) runs)
    (record { front = last_words (length images) runs; all = last_is_line (length images) runs }) in
    let before : first_lines (n - 1) bytes ≡ text =
    (let m : n - 1 ≡ line_feed_count text = omega arith in
    ap (λ (k : ℕ). first_lines k bytes) m ∙ ap (first_lines (line_feed_count text)) is
    ∙ lines_of_front text (b ∷ rest) ends) in
    let more = lines_of_more text rest b ends in
    let here : first_lines n bytes ≡ text ++ b ∷ more.0 =
    ap (λ (k : ℕ). first_lines k bytes) number ∙ ap (first_lines (line_feed_count text + 1)) is ∙ more.1 in
    record {
      before = subst (λ (s : List ℕ). IsTablePrefix s) (sym before) (
        record { images = images; runs = runs },
        [],
        is_table images runs h fits,
        text_of images runs ∙ sym (append-nil text),
      );
      refused = λ executed.
          let e = executed.3 ∙ ap (λ (s : List ℕ). s ++ executed.1) here ∙ append_assoc text (b ∷ more.0) executed.1
          ∙ append_assoc (text_so_far images) (last_line (length images) runs) (b ∷ (more.0 ++ executed.1)) in
          let r = behind_so_far executed.0 images (last_line (length images) runs ++ b ∷ (more.0 ++ executed.1)) executed.2 h e in
          let m : 0 + length images ≡ length images = omega arith in
          let few = h.few in
          refused_behind (0 + length images) runs b (more.0 ++ executed.1)
          r.es r.more r.runs (omega (arith, few)) fits
          (ap (λ (k : ℕ). last_line k runs ++ b ∷ (more.0 ++ executed.1)) m ∙ r.all) r.few r.fits;
    }

-- ---- a text that is cut off

pub cut_first : (bytes : List ℕ) → lacks 10 bytes ≡ true → IsTablePrefix (first_lines (line_feed_count bytes) bytes)
cut_first bytes plain =
    subst (λ (s : List ℕ). IsTablePrefix s)
    (sym (ap (λ (n : ℕ). first_lines n bytes) (no_feeds bytes plain) ∙ no_lines bytes)) begins_nothing

pub cut_behind : (images : List ImageCounts) (rest bytes : List ℕ) → AreImages images → lacks 10 rest ≡ true
    → bytes ≡ text_so_far images ++ rest → IsTablePrefix (first_lines (line_feed_count bytes) bytes)
cut_behind images rest bytes h plain is =
    let text = text_so_far images in
    let feeds : line_feed_count bytes ≡ line_feed_count text =
    (let e = ap line_feed_count is in let f = feeds-append text rest in let g = no_feeds rest plain in
    omega (arith, e, f, g)) in
    subst (λ (s : List ℕ). IsTablePrefix s)
    (sym (ap (λ (n : ℕ). first_lines n bytes) feeds ∙ ap (first_lines (line_feed_count text)) is
    ∙ lines_of_front text rest (so_far_ends images))) (begins_so_far images h)

-- ---- what is refused is no table's text

pub no_table_refused : (n : ℕ) (bytes : List ℕ) → IsFirstInvalidLine n bytes → (t : CountTable) → IsValidTable t
    → table_text t ≡ bytes → ⊥
no_table_refused n bytes h t is e = let k = lines_begin bytes n in h.refused (t, k.0, is, e ∙ k.1)

lacks_behind : (xs ys : List ℕ) → lacks 10 (xs ++ ys) ≡ true → lacks 10 ys ≡ true
lacks_behind [] ys h = h
lacks_behind (b ∷ bs) ys h = lacks_behind bs ys (and_parts (not (b == 10)) (lacks 10 (bs ++ ys)) h).1

line_has_feed : (xs : List ℕ) → lacks 10 (line xs) ≡ true → ⊥
line_has_feed xs h = false≢true (lacks_behind xs (10 ∷ []) h)

pub no_table_cut : (images : List ImageCounts) (rest bytes : List ℕ) → AreImages images → lacks 10 rest ≡ true
    → bytes ≡ text_so_far images ++ rest → (t : CountTable) → IsValidTable t → table_text t ≡ bytes → ⊥
no_table_cut images rest bytes h plain is t ok e =
    let r = behind_so_far t images rest ok h (e ∙ is) in
    let end = last_line (0 + length images + length r.more) r.runs in
    line_has_feed (last_words (0 + length images + length r.more) r.runs)
    (ap (lacks 10) (sym (last_is_line (0 + length images + length r.more) r.runs))
    ∙ lacks_behind (flat_map image_text r.more) end
    (lacks_behind (flat_map entry_line r.es) (flat_map image_text r.more ++ end)
    (ap (lacks 10) (sym r.all) ∙ plain)))

pub no_table_cut_first : (bytes : List ℕ) → lacks 10 bytes ≡ true → (t : CountTable) → table_text t ≡ bytes → ⊥
unfolding table_text
no_table_cut_first bytes plain t e =
    let n : lacks 10 (table_text t) ≡ true = ap (lacks 10) e ∙ plain in
    false≢true n
